use Rattle.console_c.specs.References.{console_references}
use Rattle.console_c.proofs.references.console_references.Goals as goal

pub returns-in-Err : goal.returns-in-Err
unfolding console_references
returns-in-Err c = rw (← c.references-answer.ensures, c.in-Err.is, c.number.ensures)

pub returns-in-Ok : goal.returns-in-Ok
unfolding console_references
returns-in-Ok c = rw (← c.references-answer.ensures, c.in-Ok.is)
