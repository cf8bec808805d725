use Rattle.std.proofs.Common.{◌≡◌, Err, sym, arith, rules, length-take-le}
use Rattle.type_rules.specs.declared.error.ProgramError.TheVariants as P
use Rattle.tables.proofs.Passed.{seen}
use Rattle.session.proofs.Prepared.{prepared, ready}
use Rattle.session_open.proofs.OpenLaws.{ready_open, open_unprepared, open_on}
use Rattle.console_session.proofs.open.open.Goals as goal

pub overflow_mul-cells : goal.overflow_mul-cells
overflow_mul-cells c = let facts = prepared _ _ _ (seen c.prepare.ensures c.in_ok-cells.was) in omega (arith, facts.few)

pub slice_bounds-open_cells-end : goal.slice_bounds-open_cells-end
slice_bounds-open_cells-end c = (prepared _ _ _ (seen c.prepare.ensures c.in_ok-cells.was)).room

pub slice_bounds-open_cells-end-2 : goal.slice_bounds-open_cells-end-2
slice_bounds-open_cells-end-2 c = sym (length-take-le _ c.args.memory.now (prepared _ _ _ (seen c.prepare.ensures c.in_ok-cells.was)).room)

pub open_cells-requires : goal.open_cells-requires
open_cells-requires c = ready_open (ready _ _ _ (prepared _ _ _ (seen c.prepare.ensures c.in_ok-cells.was)))

pub returns-in_err-cells : goal.returns-in_err-cells
returns-in_err-cells c =
    let told : c.from_residual.result ≡ Err (P.Refused c.in_err-cells.field-0.0) = search rules in
    rw told (open_unprepared _ c.args.memory.now _ (seen c.prepare.ensures c.in_err-cells.was))

pub returns : goal.returns
returns c = open_on _ c.args.memory.now _ (seen c.prepare.ensures c.in_ok-cells.was) c.open_cells.ensures
