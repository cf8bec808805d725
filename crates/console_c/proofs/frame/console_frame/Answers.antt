use Rattle.std.proofs.Common.{sym, ◌∙◌}
use Rattle.console_c.specs.Frame.{console_frame}
use Rattle.console_c.proofs.frame.console_frame.Goals as goal

pub returns-in-Ok : goal.returns-in-Ok
unfolding console_frame
returns-in-Ok c = rw (sym c.frame-answer.ensures ∙ c.in-Ok.is)

pub returns-in-Refused : goal.returns-in-Refused
unfolding console_frame
returns-in-Refused c = rw (sym c.frame-answer.ensures ∙ c.in-Err.is, c.in-Refused.is, c.number.ensures)

pub returns-in-Type : goal.returns-in-Type
unfolding console_frame
returns-in-Type c = rw (sym c.frame-answer.ensures ∙ c.in-Err.is, c.in-Type.is, c.write_error.ensures, c.number-in-Type.ensures)
