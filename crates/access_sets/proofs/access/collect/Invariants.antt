use Rattle.std.proofs.Common.{◌≡◌, length}
use Rattle.access_sets.specs.Access.{names_at}
use Rattle.access_sets.proofs.InsertLaws.{Collecting}
use Rattle.access_sets.proofs.access.collect.Given as goal

abbrev pub invariant-loop-i : goal.invariant-loop-i
invariant-loop-i l = (length l.names ≡ length l.initial.names) × Collecting (names_at l.parameters l.arguments l.call l.access) l.initial.names l.names l.count l.i
