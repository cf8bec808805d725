use native.Mathlib.Omega.{arith}
use Rattle.extern_call.specs.Call.{resolution_at}
use Rattle.extern_call.specs.Rows.{errors_of}
use Rattle.extern_call.proofs.GatherLaws.{written_start, written_turn, written_end}
use Rattle.extern_call.proofs.RowLaws.{error_width_lem, error-few}
use Rattle.extern_call.proofs.CallLaws.{counted-paired}
use Rattle.extern_call.proofs.rows.write_errors.Goals as goal

pub loop-i-init : goal.loop-i-init
loop-i-init c = written_start _ _ _ _ _

pub resolve_at-r-requires : goal.resolve_at-r-requires
resolve_at-r-requires c = counted-paired _ c.requires.0 c.loop-i-test.true

pub put_error-count-requires : goal.put_error-count-requires
put_error-count-requires c = omega (arith, c.loop-i.invariant.few, c.loop-i.invariant.same)

pub loop-i-preserved : goal.loop-i-preserved
loop-i-preserved c =
    let r = resolution_at c.args.regions.now c.args.parameters.now c.args.arguments.now c.args.call c.loop-i.i in
    written_turn _ _ _ _ _ _ _ _ _ _ c.loop-i-test.true (error-few r) (error_width_lem r) c.loop-i.invariant c.put_error-count.auto.rows
    (rw c.resolve_at-r.ensures at c.put_error-count.ensures)

pub returns : goal.returns
unfolding errors_of
returns c = written_end _ _ _ _ _ _ _ _ c.loop-i-test.false c.loop-i.invariant
