use Rattle.call_argument.specs.Errors.{error_row}
use Rattle.extern_call.specs.Call.{resolution_at}
use Rattle.extern_call.specs.Rows.{error_in}
use Rattle.extern_call.proofs.GatherLaws.{Written}
use Rattle.extern_call.proofs.rows.write_errors.Given as goal

abbrev pub invariant-loop-i : goal.invariant-loop-i
invariant-loop-i l = Written error_row 7 (λ k. error_in (resolution_at l.regions l.parameters l.arguments l.call k)) l.i-end l.initial.rows l.rows l.count l.i
