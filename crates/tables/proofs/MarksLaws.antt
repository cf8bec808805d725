-- Laws of marks: a name without its mark is no earlier row's; a row's own mark is set after it. Assumes nothing.
use Rattle.std.proofs.Common.{ℕ, ◌+◌, ◌<◌, Bool, true, false, List, ◌≡◌, sym, ap, ◌∙◌, arith, get_or, set, length, length-set, get_or-set_same, get_or-set_other, None}
use native.Mathlib.Decide.{ℕ_discrete}
use Rattle.tables.specs.Lookup.{name_at, lookup_among}
use Rattle.tables.specs.Marks.{mark_of, Marked}
use Rattle.tables.proofs.FirstLaws.{never}
use Rattle.tables.proofs.LookupLaws.{among_miss}

pub mark_below : (name : ℕ) → mark_of name < 251
unfolding mark_of
mark_below name = omega arith

module _ (width : ℕ) (xs : List ℕ) (marks : List Bool) (n : ℕ) (m : Marked width xs marks n) where
  -- row n's name, whose mark r is not set, is no earlier row's
  pub unmarked : {r : ℕ} → r ≡ mark_of (name_at width xs n) → get_or marks r false ≡ false → lookup_among width xs (name_at width xs n) n ≡ None
  unmarked e t = among_miss width xs _ n (λ k h q. never (sym (sym (m.set k h) ∙ (ap (λ name. get_or marks (mark_of name) false) q ∙ (ap (λ r. get_or marks r false) (sym e) ∙ t)))))

  pub marked_row : Marked width xs (set marks (mark_of (name_at width xs n)) true) (n + 1)
  marked_row = record { count = length-set marks _ true ∙ m.count; set = λ k h. at k h (ℕ_discrete (mark_of (name_at width xs k)) (mark_of (name_at width xs n))) (ℕ_discrete k n) }
    where
      at : (k : ℕ) → k < n + 1 → Dec (mark_of (name_at width xs k) ≡ mark_of (name_at width xs n)) → Dec (k ≡ n) → get_or (set marks (mark_of (name_at width xs n)) true) (mark_of (name_at width xs k)) false ≡ true
      at k h (yes e) d = rw e (get_or-set_same marks (mark_of (name_at width xs n)) true false (let b = mark_below (name_at width xs n) in let l = m.count in omega (arith, b, l)))
      at k h (no ne) (yes e) = absurd (ne (ap (λ j. mark_of (name_at width xs j)) e))
      at k h (no ne) (no nk) = get_or-set_other marks _ _ true false ne ∙ m.set k (omega arith)

-- before the first row no mark need be set
pub unmarked_rows : (width : ℕ) (xs : List ℕ) (marks : List Bool) → length marks ≡ 251 → Marked width xs marks 0
unmarked_rows width xs marks e = record { count = e; set = λ k h. absurd (omega arith) }
