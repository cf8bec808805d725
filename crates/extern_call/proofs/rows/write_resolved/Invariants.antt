use Rattle.call_argument.specs.Resolved.{resolved_row}
use Rattle.extern_call.specs.Call.{resolution_at}
use Rattle.extern_call.specs.Rows.{resolved_in}
use Rattle.extern_call.proofs.GatherLaws.{Written}
use Rattle.extern_call.proofs.rows.write_resolved.Given as goal

abbrev pub invariant-loop-i : goal.invariant-loop-i
invariant-loop-i l = Written resolved_row 5 (λ k. resolved_in (resolution_at l.regions l.parameters l.arguments l.call k)) l.i-end l.initial.rows l.rows l.count l.i
