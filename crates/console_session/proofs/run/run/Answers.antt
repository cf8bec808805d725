use Rattle.std.proofs.Common.{sym, arith, length-take-le}
use Rattle.tables.proofs.Passed.{seen}
use Rattle.session.proofs.Prepared.{prepared, ready}
use Rattle.session_forward.proofs.StepLaws.{ready_steppable}
use Rattle.session_run.proofs.MemoryLaws.{run_unprepared, run_on}
use Rattle.console_session.proofs.run.run.Goals as goal

pub overflow_mul-n : goal.overflow_mul-n
overflow_mul-n c = let facts = prepared _ _ _ (seen c.prepare.ensures c.in-Ok.is) in omega (arith, facts.few)

pub slice_bounds-run_cells-end : goal.slice_bounds-run_cells-end
slice_bounds-run_cells-end c = (prepared _ _ _ (seen c.prepare.ensures c.in-Ok.is)).room

pub slice_bounds-run_cells-end-in-Ok : goal.slice_bounds-run_cells-end-in-Ok
slice_bounds-run_cells-end-in-Ok c = sym (length-take-le _ c.args.memory.now (prepared _ _ _ (seen c.prepare.ensures c.in-Ok.is)).room)

pub run_cells-requires : goal.run_cells-requires
run_cells-requires c = ready_steppable (ready _ _ _ (prepared _ _ _ (seen c.prepare.ensures c.in-Ok.is)))

pub returns-in-Err : goal.returns-in-Err
returns-in-Err c = run_unprepared _ c.args.memory.now c.args.journal.now c.args.position c.args.allowance (seen c.prepare.ensures c.in-Err.is)

pub returns-in-Ok : goal.returns-in-Ok
returns-in-Ok c = run_on _ c.args.memory.now c.args.journal.now c.args.position c.args.allowance (seen c.prepare.ensures c.in-Ok.is) (c.run_cells.ensures c.args.nodes.now)
