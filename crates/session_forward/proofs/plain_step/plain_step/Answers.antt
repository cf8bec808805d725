use Rattle.std.proofs.Common.{sym, ap, ◌∙◌, Ok}
use Rattle.tables.specs.Outcome.{◌>>=◌}
use Rattle.machine.specs.Outcome.{row_outcome}
use Rattle.machine.proofs.WritesLaws.{writes-within}
use Rattle.session_forward.specs.Forward.{stepped}
use Rattle.session_forward.specs.Step.{row_leaves}
use Rattle.session_forward.proofs.StepLaws.{all_there}
use Rattle.session_forward.proofs.plain_step.plain_step.Goals as goal

pub step_writes-requires-in-Ok-One-clause-there : goal.step_writes-requires-in-Ok-One-clause-there
step_writes-requires-in-Ok-One-clause-there c =
    all_there c.requires.0.layout (writes-within c.requires.0.layout.laid c.args.cells.now c.args.x c.args.reply.now (sym c.plain_outcome.ensures ∙ ap row_outcome (c.in-Ok-One.is ∙ ap Ok c.in-Ok-One.field-0-is)))

pub step_writes-requires-in-Ok-Two-clause-there : goal.step_writes-requires-in-Ok-Two-clause-there
step_writes-requires-in-Ok-Two-clause-there c =
    all_there c.requires.0.layout (writes-within c.requires.0.layout.laid c.args.cells.now c.args.x c.args.reply.now (sym c.plain_outcome.ensures ∙ ap row_outcome (c.in-Ok-Two.is ∙ ap Ok c.in-Ok-Two.field-0-is)))

pub returns-in-Err : goal.returns-in-Err
unfolding row_leaves stepped ◌>>=◌
returns-in-Err c = rw (sym c.plain_outcome.ensures ∙ ap row_outcome c.in-Err.is)

pub returns-in-Ok-Nothing : goal.returns-in-Ok-Nothing
returns-in-Ok-Nothing c = rw (sym c.plain_outcome.ensures ∙ ap row_outcome (c.in-Ok-Nothing.is ∙ ap Ok c.in-Ok-Nothing.field-0-is)) c.step_writes.ensures

pub returns-in-Ok-One : goal.returns-in-Ok-One
returns-in-Ok-One c = rw (sym c.plain_outcome.ensures ∙ ap row_outcome (c.in-Ok-One.is ∙ ap Ok c.in-Ok-One.field-0-is)) c.step_writes-in-Ok-One.ensures

pub returns-in-Ok-Two : goal.returns-in-Ok-Two
returns-in-Ok-Two c = rw (sym c.plain_outcome.ensures ∙ ap row_outcome (c.in-Ok-Two.is ∙ ap Ok c.in-Ok-Two.field-0-is)) c.step_writes-in-Ok-Two.ensures
