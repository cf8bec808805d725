use Rattle.std.proofs.Common.{sym, arith, length-take-le}
use Rattle.tables.proofs.Passed.{seen}
use Rattle.session.proofs.Prepared.{prepared, ready}
use Rattle.session_back.proofs.BackLaws.{back_unprepared, back_on}
use Rattle.console_session.proofs.back.back.Goals as goal

pub overflow_mul-n : goal.overflow_mul-n
overflow_mul-n c = let facts = prepared _ _ _ (seen c.prepare.ensures c.in-Ok.is) in omega (arith, facts.few)

pub slice_bounds-take_back-end : goal.slice_bounds-take_back-end
slice_bounds-take_back-end c = (prepared _ _ _ (seen c.prepare.ensures c.in-Ok.is)).room

pub slice_bounds-take_back-end-in-Ok : goal.slice_bounds-take_back-end-in-Ok
slice_bounds-take_back-end-in-Ok c = sym (length-take-le _ c.args.memory.now (prepared _ _ _ (seen c.prepare.ensures c.in-Ok.is)).room)

pub returns-in-Err : goal.returns-in-Err
returns-in-Err c = back_unprepared _ c.args.memory.now c.args.journal.now c.args.position (seen c.prepare.ensures c.in-Err.is)

pub returns-in-Ok : goal.returns-in-Ok
returns-in-Ok c = back_on _ c.args.memory.now c.args.journal.now c.args.position (seen c.prepare.ensures c.in-Ok.is) c.take_back.ensures
