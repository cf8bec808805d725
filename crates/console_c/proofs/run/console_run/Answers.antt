use Rattle.console_c.specs.Run.{console_run}
use Rattle.console_c.proofs.run.console_run.Goals as goal

pub returns-in-Err : goal.returns-in-Err
unfolding console_run
returns-in-Err c =
    rw (← c.position_in-old.ensures, ← c.run-answer.ensures, c.in-Err.is, c.number.ensures)

pub returns-in-Ok : goal.returns-in-Ok
unfolding console_run
returns-in-Ok c =
    rw (← c.position_in-old.ensures, ← c.run-answer.ensures, c.in-Ok.is, c.write_position.ensures, c.write_ran.ensures)
