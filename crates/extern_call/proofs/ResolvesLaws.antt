-- What `resolves_call` says of a CALL that resolves, and where its resolved rows stand. Assumes nothing.
use Rattle.call_argument.specs.declared.error.CallArgumentError.{CallArgumentError}
use Rattle.std.proofs.Common.{Result, Ok, Err}
use Prim.Native.Nat.{ℕ, zero, suc, ◌+◌, ◌*◌, ◌<◌}
use mathlib.Core.Path.{◌≡◌, refl, ◌∙◌}
use mathlib.Core.Bool.{true}
use mathlib.Core.List.{List, append-nil}
use native.Mathlib.Omega.{arith}
use borrow.Author.Tests.{eqb-true}
use lib.ListN.{length, get_or, length-append, get_or-append}
use lib.Seq.{get_or-append-add}
use Rattle.tables.specs.Refusal.{argument_count, argument_errors}
use Rattle.tables.specs.Outcome.{Outcome, ◌>>=◌, ◌>>◌, need}
use Rattle.tables.specs.declared.rows.Instruction.{Instruction}
use Rattle.tables.proofs.Passed.{passed}
use Rattle.tables.proofs.FirstLaws.{every-row}
use Rattle.extern_call.specs.Call.{find_call, expected_count, is_counted, is_resolved, resolution_at, all_resolve, resolves_call, CallRanges, Counted}
use Rattle.call_argument.specs.Resolved.{resolved_row}
use Rattle.extern_call.specs.Gather.{gather, flat}
use Rattle.extern_call.specs.Rows.{resolved_in, resolved_arguments}
use Rattle.call_argument.specs.declared.resolved.ResolvedCallArgument.{ResolvedCallArgument}
use Rattle.extern_call.specs.declared.call.ExternCall.{ExternCall}
use Rattle.extern_call.proofs.GatherLaws.{flat_append}
use Rattle.extern_call.proofs.RowLaws.{resolved_width_lem}
use Rattle.extern_call.proofs.CallLaws.{call-ranges}

-- a CALL all of whose arguments resolve
pub record Resolvable (regions externs parameters arguments : List ℕ) (x : Instruction) (call : ExternCall) : Type 0 where
  pub found : find_call externs x ≡ Ok call
  pub count : call.argument_count ≡ expected_count call
  pub all : all_resolve regions parameters arguments call ≡ true

module _ (regions externs parameters arguments : List ℕ) (x : Instruction) (call : ExternCall) where
  resolves_by : (o : Outcome ExternCall) → find_call externs x ≡ o
      → (o >>= (λ c. need (is_counted c) argument_count >> (need (all_resolve regions parameters arguments c) argument_errors >> Ok c))) ≡ Ok call
      → Resolvable regions externs parameters arguments x call
  unfolding ◌>>=◌
  resolves_by (Err n) f e = let z : ◌≡◌ {A = ℕ} 0 1 = cc in absurd (omega arith)
  resolves_by (Ok c) f e =
      let (counted, e₁) = passed (is_counted c) _ _ _ e in
      let (all, e₂) = passed (all_resolve regions parameters arguments c) _ _ _ e₁ in
      let same : c ≡ call = cc in
      record { found = f ∙ e₂; count = rw same at (eqb-true c.argument_count (expected_count c) counted); all = rw same at all }

  pub resolves_ok : resolves_call regions externs parameters arguments x ≡ Ok call → Resolvable regions externs parameters arguments x call
  unfolding resolves_call
  resolves_ok e = resolves_by (find_call externs x) refl e

  pub resolvable_counted : CallRanges externs parameters arguments x → Resolvable regions externs parameters arguments x call → Counted parameters arguments call
  resolvable_counted r s = record { ranges = call-ranges r s.found; count = s.count }

-- items that are there once a row
ones-length : {A : Type 0} (f : ℕ → List A) (i n : ℕ) → ((k : ℕ) → k < n → length (f (i + k)) ≡ 1) → length (gather f i n) ≡ n
unfolding gather
ones-length f i zero h = refl
ones-length f i (suc n) h =
    let z : i + 0 ≡ i = omega arith in
    let a : length (f i) ≡ 1 = rw z at (h 0 (omega arith)) in
    let b : length (gather f (i + 1) n) ≡ n = ones-length f (i + 1) n (λ k g. (let y : i + 1 + k ≡ i + suc k = omega arith in rw y (h (suc k) (omega arith)))) in
    rw length-append (omega arith)

five_at : (f : ℕ → List ResolvedCallArgument) (i n k j : ℕ) → ((k : ℕ) → k < n → length (flat resolved_row (f (i + k))) ≡ 5) → k < n → j < 5
    → get_or (flat resolved_row (gather f i n)) (k * 5 + j) 0 ≡ get_or (flat resolved_row (f (i + k))) j 0
unfolding gather
five_at f i zero k j h g l = absurd (omega arith)
five_at f i (suc n) zero j h g l =
    let z : i + 0 ≡ i = omega arith in
    let a : length (flat resolved_row (f i)) ≡ 5 = rw z at (h 0 (omega arith)) in
    let y : 0 * 5 + j ≡ j = omega arith in
    rw (z, y, flat_append) (get_or-append (flat resolved_row (f i)) (flat resolved_row (gather f (i + 1) n)) 0 j (omega arith))
five_at f i (suc n) (suc k) j h g l =
    let z : i + 0 ≡ i = omega arith in
    let a : length (flat resolved_row (f i)) ≡ 5 = rw z at (h 0 (omega arith)) in
    let y : suc k * 5 + j ≡ length (flat resolved_row (f i)) + (k * 5 + j) = omega arith in
    let w : i + 1 + k ≡ i + suc k = omega arith in
    let b = five_at f (i + 1) n k j (λ m q. (let x : i + 1 + m ≡ i + suc m = omega arith in rw x (h (suc m) (omega arith)))) (omega arith) l in
    rw (y, flat_append, get_or-append-add (flat resolved_row (f i)) (flat resolved_row (gather f (i + 1) n)) (k * 5 + j) 0) (rw w at b)

-- an argument that resolves
pub record ResolvedAs (r : Result ResolvedCallArgument CallArgumentError) : Type 0 where
  pub argument : ResolvedCallArgument
  pub resolved : r ≡ Ok argument

resolved_as : (r : Result ResolvedCallArgument CallArgumentError) → is_resolved r ≡ true → ResolvedAs r
resolved_as (Ok a) e = record { argument = a; resolved = refl }
resolved_as (Err f) e = let z : ◌≡◌ {A = ℕ} 0 1 = cc in absurd (omega arith)

module _ (regions parameters arguments : List ℕ) (call : ExternCall) (all : all_resolve regions parameters arguments call ≡ true) where
  -- each argument resolves
  pub all_resolved : (i : ℕ) → i < call.argument_count → ResolvedAs (resolution_at regions parameters arguments call i)
  unfolding all_resolve
  all_resolved i h =
      resolved_as (resolution_at regions parameters arguments call i)
      (every-row (λ k. is_resolved (resolution_at regions parameters arguments call k)) call.argument_count all i h)

  each : (i : ℕ) → i < call.argument_count → length (resolved_in (resolution_at regions parameters arguments call i)) ≡ 1
  each i h = rw (all_resolved i h).resolved

  -- so there are as many resolved rows as arguments
  pub resolved_count : length (resolved_arguments regions parameters arguments call) ≡ call.argument_count
  unfolding resolved_arguments
  resolved_count = ones-length (λ i. resolved_in (resolution_at regions parameters arguments call i)) 0 call.argument_count
      (λ i h. (let z : 0 + i ≡ i = omega arith in rw z (each i h)))

  -- and row i stands at word 5 i
  pub row_word : (i j : ℕ) (a : ResolvedCallArgument) → i < call.argument_count → j < 5 → resolution_at regions parameters arguments call i ≡ Ok a
      → get_or (flat resolved_row (resolved_arguments regions parameters arguments call)) (i * 5 + j) 0 ≡ get_or (resolved_row a) j 0
  unfolding resolved_arguments flat
  row_word i j a h g e =
      let z : 0 + i ≡ i = omega arith in
      let w = five_at (λ k. resolved_in (resolution_at regions parameters arguments call k)) 0 call.argument_count i j
      (λ k l. (let y : 0 + k ≡ k = omega arith in rw y (rw (each k l) at (resolved_width_lem (resolution_at regions parameters arguments call k))))) h g in
      w ∙ rw (z, e, append-nil)
