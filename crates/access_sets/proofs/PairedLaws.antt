-- Which arguments of a CALL the access sets keep, and how many names each adds. Assumes nothing.
use Prim.Native.Nat.{ℕ, ◌+◌, ◌<◌, ◌≤◌}
use mathlib.Core.Path.{◌≡◌, refl}
use mathlib.Core.Bool.{Bool, true, false, cond}
use mathlib.Core.List.{List, []}
use native.Mathlib.Omega.{arith}
use borrow.Author.Tests.{ltb-true, ltb-false}
use lib.Dec.{ltb}
use lib.ListN.{length}
use Rattle.tables.specs.Rows.{argument_at}
use Rattle.call_argument.specs.Argument.{argument_of, argument_names}
use Rattle.extern_call.specs.Call.{expected_count, Ranges, Paired}
use Rattle.call_argument.specs.declared.argument.UnresolvedCallArgument.{UnresolvedCallArgument}
use Rattle.call_argument.specs.declared.argument.UnresolvedCallArgument.TheVariants as U
use Rattle.extern_call.specs.declared.call.ExternCall.{ExternCall}
use Rattle.access_sets.specs.Access.{names_in, listed_at, names_at, paired_count}
use Rattle.access_sets.specs.declared.access.Access.{Access}

lower_below : (b : Bool) (i x y : ℕ) → ltb x y ≡ b → i < cond b x y → (i < x) × (i < y)
lower_below true i x y e h = (h, omega (arith, ltb-true x y e))
lower_below false i x y e h = (omega (arith, ltb-false x y e), h)

pub paired-below : (call : ExternCall) (i : ℕ) → i < paired_count call → (i < call.argument_count) × (i < expected_count call)
unfolding paired_count
paired-below call i h = lower_below (ltb call.argument_count (expected_count call)) i call.argument_count (expected_count call) refl h

pub ranges-paired : {parameters arguments : List ℕ} {call : ExternCall} (i : ℕ) → Ranges parameters arguments call → i < paired_count call → Paired parameters arguments call i
ranges-paired {call = call} i r h = let b = paired-below call i h in record { ranges = r; argument = b.0; wanted = b.1 }

-- an argument within the right count is the return's or a parameter's
pub below-paired : (call : ExternCall) (i : ℕ) → i < call.argument_count → i < expected_count call → i < paired_count call
unfolding paired_count
below-paired call i h g = at (ltb call.argument_count (expected_count call))
  where
    at : (b : Bool) → i < cond b call.argument_count (expected_count call)
    at true = h
    at false = g

few_of : (b : Bool) (a : UnresolvedCallArgument) → length (cond b (argument_names a) []) ≤ 1
few_of false a = omega arith
few_of true (U.Identifier name) = omega arith
few_of true (U.Reference name index) = omega arith
few_of true (U.Immediate x y) = omega arith

pub names-few : (parameters arguments : List ℕ) (call : ExternCall) (access : Access) (i : ℕ) → length (names_at parameters arguments call access i) ≤ 1
unfolding names_in
names-few parameters arguments call access i = few_of (listed_at parameters call access i) (argument_of (argument_at arguments (call.first_argument + i)))
