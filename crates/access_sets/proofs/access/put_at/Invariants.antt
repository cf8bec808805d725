use Rattle.std.proofs.Common.{◌≡◌, ◌≤◌, ◌∷◌, length, take, drop}
use Rattle.std.proofs.lemmas.List.Edits.{sets}
use Rattle.access_sets.proofs.access.put_at.Given as goal

abbrev pub invariant-loop-i : goal.invariant-loop-i
invariant-loop-i l = (l.place ≤ l.i) × (length l.names ≡ length l.initial.names) × (sets l.names l.place (l.name ∷ drop l.place (take l.i l.names)) ≡ sets l.initial.names l.place (l.name ∷ drop l.place (take l.count l.initial.names)))
