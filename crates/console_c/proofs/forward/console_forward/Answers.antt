use Rattle.console_c.specs.Forward.{console_forward}
use Rattle.console_c.proofs.forward.console_forward.Goals as goal

pub returns-in-Err : goal.returns-in-Err
unfolding console_forward
returns-in-Err c =
    rw (← c.position_in-old.ensures, ← c.forward-answer.ensures, c.in-Err.is, c.number.ensures)

pub returns-in-Ok : goal.returns-in-Ok
unfolding console_forward
returns-in-Ok c =
    rw (← c.position_in-old.ensures, ← c.forward-answer.ensures, c.in-Ok.is, c.write_position.ensures)
