use mathlib.Core.Path.{sym, ◌∙◌}
use Rattle.console_c.specs.Reference.{console_reference}
use Rattle.console_c.proofs.reference.console_reference.Goals as goal

pub returns-in-Err : goal.returns-in-Err
unfolding console_reference
returns-in-Err c = rw (sym c.memory_references-answer.ensures ∙ c.in-Err.is, c.number.ensures)

pub returns-in-Ok : goal.returns-in-Ok
unfolding console_reference
returns-in-Ok c = rw (sym c.memory_references-answer.ensures ∙ c.in-Ok.is, c.write_found.ensures)
