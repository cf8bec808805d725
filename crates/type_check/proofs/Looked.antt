-- The count of the nodes looked at, as specs/Looked.antt claims it. Assumes nothing.
use Rattle.type_check.specs.Frame.{TreeVerdict}
use Rattle.std.specs.Prelude.{Result, Ok, Err}
use Prim.Native.Nat.{ℕ, zero, suc, ◌+◌}
use mathlib.Core.Bool.{cond}
use mathlib.Core.List.{List}
use mathlib.Core.Path.{◌≡◌, refl, sym, ap, ◌∙◌}
use native.Mathlib.Omega.{arith}
use Rattle.tables.specs.First.{first}
use Rattle.type_check.specs.Frame.{is_failure, at_place, verdict_there, tree_from, tree_verdict}
use Rattle.type_check.specs.Looked.{looked_from, place_plus_one_or, LookedIs, tree_check}
use Rattle.type_check.specs.declared.frame.NodeError.{NodeError}

-- a turn: the node at the place fails and is the last, or the rest is as claimed
turn : (v : Result (Unit {0}) NodeError) (place rest n : ℕ) (later : TreeVerdict) → place + 1 + rest ≡ place_plus_one_or later (place + 1 + n)
    → place + (1 + cond (is_failure v) 0 rest) ≡ place_plus_one_or (cond (is_failure v) (at_place place v) later) (place + suc n)
turn (Ok _) place rest n later e = let s : place + suc n ≡ place + 1 + n = omega arith in rw s (omega arith)
turn (Err f) place rest n later e = omega arith

-- from a place on: the nodes before it were passed
from_place : (regions nodes : List ℕ) (root place n : ℕ) → place + looked_from regions nodes root place n ≡ place_plus_one_or (tree_from regions nodes root place n) (place + n)
unfolding looked_from first
from_place regions nodes root place zero = refl
from_place regions nodes root place (suc n) = turn (verdict_there regions nodes root place) place _ n _ (from_place regions nodes root (place + 1) n)

pub looked_is : LookedIs
unfolding tree_verdict
looked_is regions nodes root count =
    let e : 0 + count ≡ count = omega arith in
    let from_First = rw e at (from_place regions nodes root 0 count) in
    omega arith

-- the check of a tree, by the verdict that it ends with and what the claim says of the count
pub checked : (regions nodes : List ℕ) (root count : ℕ) {v : TreeVerdict} {looked : ℕ} → v ≡ tree_verdict regions nodes root count
    → looked ≡ place_plus_one_or v count → record { verdict = v; looked = looked } ≡ tree_check regions nodes root count
checked regions nodes root count e l =
    let n = l ∙ (ap (λ w. place_plus_one_or w count) e ∙ sym (looked_is regions nodes root count)) in
    rw (e, n)
