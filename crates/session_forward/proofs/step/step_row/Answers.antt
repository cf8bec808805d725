use Rattle.std.proofs.Common.{List, ℕ}
use Rattle.tables.specs.Tables.{Tables, tables_of}
use Rattle.tables.proofs.Passed.{seen}
use Rattle.session_forward.specs.Forward.{stepped}
use Rattle.session_forward.specs.Step.{row_leaves}
use Rattle.session_forward.proofs.StepLaws.{row-refused, row_taken, row_ready}
use Rattle.session_forward.proofs.step.step_row.Goals as goal

pub returns-in-Err : goal.returns-in-Err
unfolding stepped
returns-in-Err c =
    let tables : List ℕ → Tables = λ nodes. tables_of c.args.regions.now c.args.externs.now c.args.parameters.now nodes c.args.arguments.now c.args.instructions.now in
    λ nodes. rw (row-refused (tables nodes) c.args.cells.now _ c.args.p c.args.reply.now (seen c.row_here.ensures c.in-Err.is))

pub any_step-requires : goal.any_step-requires
any_step-requires c = (row_ready c.args.p c.requires.0 (seen c.row_here.ensures c.in-Ok.is), c.requires.1)

pub returns-in-Ok : goal.returns-in-Ok
unfolding row_leaves
returns-in-Ok c =
    let tables : List ℕ → Tables = λ nodes. tables_of c.args.regions.now c.args.externs.now c.args.parameters.now nodes c.args.arguments.now c.args.instructions.now in
    λ nodes. rw (row_taken (tables nodes) c.args.cells.now _ c.args.p c.args.reply.now (seen c.row_here.ensures c.in-Ok.is)) (c.any_step.ensures nodes)
