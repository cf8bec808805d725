use Rattle.console_c.specs.Back.{console_back}
use Rattle.console_c.proofs.back.console_back.Goals as goal

pub returns-in-Err : goal.returns-in-Err
unfolding console_back
returns-in-Err c =
    rw (← c.position_in-old.ensures, ← c.back-answer.ensures, c.in-Err.is, c.number.ensures)

pub returns-in-Ok : goal.returns-in-Ok
unfolding console_back
returns-in-Ok c =
    rw (← c.position_in-old.ensures, ← c.back-answer.ensures, c.in-Ok.is, c.write_position.ensures)
