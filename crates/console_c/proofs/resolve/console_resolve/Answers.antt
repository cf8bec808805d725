use Rattle.std.proofs.Common.{sym, ◌∙◌}
use Rattle.console_c.specs.Resolve.{console_resolve}
use Rattle.console_c.proofs.resolve.console_resolve.Goals as goal

pub returns-in-Refused : goal.returns-in-Refused
unfolding console_resolve
returns-in-Refused c = rw (← c.resolve-answer.ensures, c.in-Err.is, c.in-Refused.is, c.number.ensures)

pub returns-in-Errors : goal.returns-in-Errors
unfolding console_resolve
returns-in-Errors c = rw (← c.resolve-answer.ensures, c.in-Err.is, c.in-Errors.is, c.number-in-Errors.ensures)

pub returns-in-Ok : goal.returns-in-Ok
unfolding console_resolve
returns-in-Ok c = rw (← c.resolve-answer.ensures, c.in-Ok.is)
