-- What a judged reply says: each of its rows hits a cell that is there, and gives one write. Assumes nothing.
use Rattle.call_argument.specs.declared.error.CallArgumentError.{CallArgumentError}
use Rattle.call_argument.specs.declared.resolved.ResolvedCallArgument.{ResolvedCallArgument}
use Rattle.std.proofs.Common.{Result, Ok, Err}
use Prim.Native.Nat.{ℕ, zero, suc, ◌+◌, ◌<◌}
use mathlib.Core.Bool.{Bool, true, false, not}
use mathlib.Core.List.{List}
use mathlib.Core.Path.{◌≡◌, refl, ap}
use native.Mathlib.Omega.{arith}
use borrow.Author.Tests.{ltb-true}
use lib.ListN.{length}
use lib.Dec.{eqb, ltb}
use Rattle.tables.specs.declared.refusal.Refusal.{Refusal}
use Rattle.tables.specs.Outcome.{◌>>◌, need}
use Rattle.tables.specs.Rows.{region_length}
use Rattle.operands.specs.Reach.{Laid}
use Rattle.tables.specs.declared.rows.Instruction.{Instruction}
use Rattle.tables.proofs.FirstLaws.{every-row}
use Rattle.tables.proofs.Passed.{both, passed}
use Rattle.extern_call.specs.Call.{resolution_at, resolves_call, CallRanges}
use Rattle.extern_call.specs.declared.call.ExternCall.{ExternCall}
use Rattle.call_argument.specs.declared.resolved.ResolvedCallArgument.TheVariants.{Vector, MemoryReference, Immediate}
use Rattle.extern_call.proofs.CallLaws.{counted-paired}
use Rattle.extern_call.proofs.ResolvedLaws.{resolved_facts}
use Rattle.extern_call.proofs.ResolvesLaws.{Resolvable, resolves_ok, resolvable_counted}
use Rattle.call_reply.specs.Call.{reply_rows, reply_at, reply_length_fits, scalar_fits, fits_row, hits, of_resolved, scalars_fit, reply_row_fits, reply_fits, reply_writes_from, reply_writes, call_ready, call_judged}
use Rattle.call_reply.specs.Reach.{HitWithin, Hit, Replied}
use Rattle.call_reply.specs.declared.reply.Reply.{Reply}
use Rattle.operands.proofs.Binds.{bound}
use Rattle.operands.proofs.AddressLaws.{index_below}

-- ---- a CALL whose reply was judged

pub record Judged (regions externs parameters arguments : List ℕ) (x : Instruction) (reply : List ℕ) (call : ExternCall) : Type 0 where
  pub resolving : Resolvable regions externs parameters arguments x call
  pub scalars : scalars_fit regions parameters arguments call ≡ true
  pub fits : reply_fits regions parameters arguments call reply ≡ true

given : {a b : ExternCall} (t : Bool) (n : Refusal) → (need t n >> Ok a) ≡ Ok b → (t ≡ true) × (a ≡ b)
given t n e = let (p, q) = passed t n _ _ e in (p, (cc))

module _ (regions externs parameters arguments : List ℕ) (x : Instruction) (call : ExternCall) where
  pub ready_ok : call_ready regions externs parameters arguments x ≡ Ok call
      → Resolvable regions externs parameters arguments x call × (scalars_fit regions parameters arguments call ≡ true)
  unfolding call_ready
  ready_ok e =
      let b = bound (resolves_call regions externs parameters arguments x) _ call e in
      let (s, q) = given (scalars_fit regions parameters arguments b.value) _ b.rest in
      (resolves_ok regions externs parameters arguments x call (rw q at b.given), rw q at s)

  pub judged_ok : (reply : List ℕ) → call_judged regions externs parameters arguments x reply ≡ Ok call → Judged regions externs parameters arguments x reply call
  unfolding call_judged
  judged_ok reply e =
      let b = bound (call_ready regions externs parameters arguments x) _ call e in
      let (f, q) = given (reply_fits regions parameters arguments b.value reply) _ b.rest in
      let (r, s) = ready_ok (rw q at b.given) in
      record { resolving = r; scalars = s; fits = rw q at f }

-- each of its rows fits
pub judged_replied : {regions externs parameters arguments : List ℕ} {x : Instruction} {reply : List ℕ} {call : ExternCall}
    → Laid regions → CallRanges externs parameters arguments x → Judged regions externs parameters arguments x reply call
    → (k : ℕ) → k < reply_rows reply → Replied regions parameters arguments call reply k
unfolding reply_fits
judged_replied {regions} {externs} {parameters} {arguments} {x} {reply} {call} laid ranges j k h = record {
  laid = laid;
  counted = resolvable_counted regions externs parameters arguments x call ranges j.resolving;
  scalars = j.scalars;
  row = h;
  fits = every-row (reply_row_fits regions parameters arguments call reply) (reply_rows reply) (both (reply_length_fits reply) _ j.fits).1 k h;
}

-- ---- the cell that a row hits

pub offset-below : (mutable length kind : ℕ) (y : Reply) → fits_row mutable length kind y ≡ true → y.offset < length
unfolding fits_row
offset-below mutable length kind y e = ltb-true y.offset length (both (ltb y.offset length) _ (both (not (eqb mutable 0)) _ e).1).0

module _ (regions parameters arguments : List ℕ) (call : ExternCall) where
  -- the index of a scalar reference is below its region's length
  pub scalar_below : (i : ℕ) → scalars_fit regions parameters arguments call ≡ true → i < call.argument_count
      → (a : Result ResolvedCallArgument CallArgumentError) → resolution_at regions parameters arguments call i ≡ a → of_resolved (scalar_fits regions) true a ≡ true
  unfolding scalars_fit
  scalar_below i s h a e =
      rw (← e) (every-row (λ k. of_resolved (scalar_fits regions) true (resolution_at regions parameters arguments call k)) call.argument_count s i h)

  cell-within : (i : ℕ) (y : Reply) (r : Result ResolvedCallArgument CallArgumentError) → resolution_at regions parameters arguments call i ≡ r
      → of_resolved (scalar_fits regions) true r ≡ true → of_resolved (hits y) false r ≡ true → HitWithin regions y.offset r
  cell-within i y (Ok (Vector name v mutable)) e s f =
      let d = (resolved_facts regions parameters arguments call i (Vector name v mutable) e).declares in
      let l : y.offset < v.length = offset-below mutable v.length v.kind y f in
      let q : region_length regions d.region ≡ v.length = d.of_length in
      let g : y.offset < region_length regions d.region = omega arith in
      rw d.named g
  cell-within i y (Ok (MemoryReference name index kind mutable)) e s f =
      let d = (resolved_facts regions parameters arguments call i (MemoryReference name index kind mutable) e).declares in
      rw d.named (index_below regions d.region index (rw d.named at s))
  cell-within i y (Ok (Immediate real imaginary kind)) e s f = tt
  cell-within i y (Err error) e s f = tt

  pub replied_argument : (reply : List ℕ) (k : ℕ) → reply_row_fits regions parameters arguments call reply k ≡ true → (reply_at reply k).argument < call.argument_count
  unfolding reply_row_fits
  replied_argument reply k f = ltb-true (reply_at reply k).argument call.argument_count (both (ltb (reply_at reply k).argument call.argument_count) _ f).0

  pub replied_hit : (reply : List ℕ) (k : ℕ) → Replied regions parameters arguments call reply k
      → Hit regions parameters arguments call (reply_at reply k).argument (reply_at reply k).offset
  unfolding reply_row_fits
  replied_hit reply k p =
      let y = reply_at reply k in
      let h = replied_argument reply k p.fits in
      record {
        laid = p.laid;
        paired = counted-paired y.argument p.counted h;
        cell = cell-within y.argument y (resolution_at regions parameters arguments call y.argument) refl
            (scalar_below y.argument p.scalars h (resolution_at regions parameters arguments call y.argument) refl)
            (both (ltb y.argument call.argument_count) _ p.fits).1;
      }

-- ---- how many writes

module _ (regions parameters arguments : List ℕ) (call : ExternCall) (reply : List ℕ) where
  replies_length : (k n : ℕ) → length (reply_writes_from regions parameters arguments call reply k n) ≡ n
  unfolding reply_writes_from
  replies_length k zero = refl
  replies_length k (suc n) = ap suc (replies_length (k + 1) n)

  -- "call one per reply row"
  pub reply_writes-length : length (reply_writes regions parameters arguments call reply) ≡ reply_rows reply
  unfolding reply_writes
  reply_writes-length = replies_length 0 (reply_rows reply)
