use Rattle.std.proofs.Common.{sym, ◌∙◌}
use Rattle.console_c.specs.Check.{console_check}
use Rattle.console_c.proofs.check.console_check.Goals as goal

pub returns-in-Ok : goal.returns-in-Ok
unfolding console_check
returns-in-Ok c = rw (sym c.check-answer.ensures ∙ c.in-Ok.is)

pub returns-in-Refused : goal.returns-in-Refused
unfolding console_check
returns-in-Refused c = rw (sym c.check-answer.ensures ∙ c.in-Err.is, c.in-Refused.is, c.number.ensures)

pub returns-in-Type : goal.returns-in-Type
unfolding console_check
returns-in-Type c = rw (sym c.check-answer.ensures ∙ c.in-Err.is, c.in-Type.is, c.write_error.ensures, c.number-in-Type.ensures)
