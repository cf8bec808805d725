use Rattle.std.proofs.Common.{sym, ◌∙◌}
use Rattle.console_c.specs.Open.{console_open}
use Rattle.console_c.proofs.open.console_open.Goals as goal

pub returns-in-Ok : goal.returns-in-Ok
unfolding console_open
returns-in-Ok c = rw (← c.open-answer.ensures, c.in-Ok.is, c.write_position.ensures)

pub returns-in-Refused : goal.returns-in-Refused
unfolding console_open
returns-in-Refused c = rw (← c.open-answer.ensures, c.in-Err.is, c.in-Refused.is, c.number.ensures)

pub returns-in-Type : goal.returns-in-Type
unfolding console_open
returns-in-Type c = rw (← c.open-answer.ensures, c.in-Err.is, c.in-Type.is, c.write_error.ensures, c.number-in-Type.ensures)
