-- The write set of a CALL's row is what `access` leaves in its list of written names, where it accepts. Assumes nothing.
use Rattle.std.proofs.Common.{ℕ, Bool, true, false, List, ap, ◌≡◌, refl, sym, arith, leb, length, Ok, Err}
use Rattle.tables.specs.Refusal.{buffer_size}
use Rattle.tables.specs.Outcome.{Outcome, ◌>>=◌, ◌>>◌, need}
use Rattle.tables.specs.Tables.{Tables}
use Rattle.tables.specs.declared.rows.Instruction.{Instruction}
use Rattle.extern_call.specs.Call.{find_call}
use Rattle.extern_call.specs.declared.call.ExternCall.{ExternCall}
use Rattle.access_sets.specs.Inner.{Listed}
use Rattle.access_sets.specs.Access.{Accessing, access_of, or_untouched, with_sets, access_call}
use Rattle.access_sets.specs.declared.access.Access.TheVariants.{Read, Write}
use Rattle.soundness.specs.WriteSet.{write_set}

-- how many names were written, as the answer tells
abbrev written_of : Outcome (ℕ × ℕ) → ℕ
written_of (Ok (read, written)) = written
written_of (Err n) = 0

module _ (t : Tables) (x : Instruction) (reads writes : List ℕ) where
  -- where it accepts, the written names stand at the front of the lent list
  abbrev pub Lists : Accessing → Type 0
  Lists a = (read written : ℕ) → a.answer ≡ Ok (read, written) → Listed (write_set t x) writes a.writes written

  abbrev answer : ExternCall → Bool → Bool → Outcome Accessing
  answer call reads_fit writes-fit =
      need reads_fit buffer_size
      >> (need writes-fit buffer_size
      >> Ok (with_sets (access_of t.parameters t.arguments call Read) (access_of t.parameters t.arguments call Write) reads writes))

  answered : (call : ExternCall) (r w : Bool) → find_call t.externs x ≡ Ok call → Lists (or_untouched reads writes (answer call r w))
  unfolding ◌>>◌ need write_set
  answered call true true e read written h =
      let n : length (access_of t.parameters t.arguments call Write) ≡ written = ap written_of h in
      rw e (record { count = sym n; words = refl })
  answered call true false e read written h = let z : ◌≡◌ {A = ℕ} 0 1 = cc in absurd (omega arith)
  answered call false w e read written h = let z : ◌≡◌ {A = ℕ} 0 1 = cc in absurd (omega arith)

  looked_up : (o : Outcome ExternCall) → find_call t.externs x ≡ o
      → Lists (or_untouched reads writes (o >>= (λ call. answer call (leb call.argument_count (length reads)) (leb call.argument_count (length writes)))))
  unfolding ◌>>=◌
  looked_up (Ok call) e = answered call (leb call.argument_count (length reads)) (leb call.argument_count (length writes)) e
  looked_up (Err n) e = λ read written h. let z : ◌≡◌ {A = ℕ} 0 1 = cc in absurd (omega arith)

  pub write_set_access : Lists (access_call t.externs t.parameters t.arguments x reads writes)
  unfolding access_call
  write_set_access = looked_up (find_call t.externs x) refl
