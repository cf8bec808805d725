use Rattle.std.proofs.Common.{arith}
use Rattle.tables.proofs.Passed.{seen}
use Rattle.session_back.specs.Back.{taken_back}
use Rattle.session_back.proofs.BackLaws.{takes_back, took_back}
use Rattle.session_back.proofs.take_back.take_back.Goals as goal

pub overflow_add-changes : goal.overflow_add-changes
overflow_add-changes c =
    let takes = takes_back c.args.instructions.now _ c.args.journal.now c.args.p (seen c.look_back.ensures c.in-Ok.is) in
    omega (arith, takes.before)

pub overflow_sub-used : goal.overflow_sub-used
overflow_sub-used c =
    let takes = takes_back c.args.instructions.now _ c.args.journal.now c.args.p (seen c.look_back.ensures c.in-Ok.is) in
    omega (arith, takes.before)

pub undo-requires : goal.undo-requires
undo-requires c =
    let takes = takes_back c.args.instructions.now _ c.args.journal.now c.args.p (seen c.look_back.ensures c.in-Ok.is) in
    record { count_in_bounds = omega (arith, takes.used, takes.before); count_value = takes.readable }

pub overflow_sub-used-in-Ok : goal.overflow_sub-used-in-Ok
overflow_sub-used-in-Ok c =
    let takes = takes_back c.args.instructions.now _ c.args.journal.now c.args.p (seen c.look_back.ensures c.in-Ok.is) in
    omega (arith, takes.before)

pub row_left_at-row-requires : goal.row_left_at-row-requires
row_left_at-row-requires c =
    let takes = takes_back c.args.instructions.now _ c.args.journal.now c.args.p (seen c.look_back.ensures c.in-Ok.is) in
    omega (arith, takes.used, takes.before)

pub retreat-requires : goal.retreat-requires
retreat-requires c =
    let takes = takes_back c.args.instructions.now _ c.args.journal.now c.args.p (seen c.look_back.ensures c.in-Ok.is) in
    (takes.some, takes.before)

pub returns-in-Err : goal.returns-in-Err
unfolding taken_back
returns-in-Err c = rw (seen c.look_back.ensures c.in-Err.is)

pub returns-in-Ok : goal.returns-in-Ok
returns-in-Ok c = took_back _ _ _ (seen c.look_back.ensures c.in-Ok.is) c.row_left_at-row.ensures c.retreat.ensures c.undo.ensures
