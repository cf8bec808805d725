use Rattle.console_c.specs.Access.{console_access}
use Rattle.console_c.proofs.access.console_access.Goals as goal

pub returns-in-Err : goal.returns-in-Err
unfolding console_access
returns-in-Err c = rw (← c.access-answer.ensures, c.in-Err.is, c.number.ensures)

pub returns-in-Ok : goal.returns-in-Ok
unfolding console_access
returns-in-Ok c = rw (← c.access-answer.ensures, c.in-Ok.is)
