-- What a tree's verdict says: a failing node is one of the tree's. Assumes nothing.
use Rattle.std.proofs.Common.{ap}
use Rattle.std.specs.Prelude.{Result, Ok, Err}
use Prim.Native.Nat.{ℕ, ◌+◌, ◌<◌}
use mathlib.Core.List.{List}
use mathlib.Core.Logic.{⊎_elim}
use mathlib.Core.Path.{◌≡◌, sym, ◌∙◌}
use native.Mathlib.Omega.{arith}
use Rattle.type_check.specs.Frame.{TreeVerdict, at_place, verdict_there, tree_verdict}
use Rattle.type_check.specs.declared.frame.NodeError.{NodeError}
use Rattle.type_check.proofs.Searches.{searched}

abbrev place_in : TreeVerdict → ℕ
place_in (Ok _) = 0
place_in (Err at) = at.0

same_place : (v : Result (Unit {0}) NodeError) {place k : ℕ} {e : NodeError} → Err (place, e) ≡ at_place k v → place ≡ k
same_place (Ok _) q = let z : ◌≡◌ {A = ℕ} 0 1 = cc in absurd (omega arith)
same_place (Err e) q = ap place_in q

pub place-below : (regions nodes : List ℕ) (root count : ℕ) {place : ℕ} {e : NodeError} → tree_verdict regions nodes root count ≡ Err (place, e) → place < count
unfolding tree_verdict
place-below regions nodes root count {place} {e} q =
    ⊎_elim
    (λ h.
    let s : place ≡ h.row = same_place (verdict_there regions nodes root h.row) (sym q ∙ h.is) in
    let b : h.row < 0 + count = h.below in
    omega arith)
    (λ m. let z : ◌≡◌ {A = ℕ} 0 1 = cc in absurd (omega arith))
    (searched _ _ _ 0 count)
