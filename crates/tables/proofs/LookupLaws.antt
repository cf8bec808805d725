-- What a lookup says: the row that it found is a row of the table, with the name; where it found none, no row has the name. Assumes nothing.
use Rattle.std.proofs.Common.{ℕ, zero, suc, ◌+◌, ◌<◌, ◌≤◌, Bool, true, false, cond, List, ◌≡◌, refl, sym, ap, ◌∙◌, arith, ne_eqb, eqb-true, eqb, Some, None}
use native.Mathlib.Decide.{ℕ_discrete}
use borrow.Author.Tests.{eqb-false}
use Rattle.tables.specs.First.{first}
use Rattle.tables.specs.Rows.{rows_of, region_width, extern_width, region_rows, extern_rows, region_name}
use Rattle.tables.specs.Lookup.{name_at, lookup_from, lookup_among, lookup_of, lookup_region, lookup_extern}

-- the row d is one of the n rows from row i on, and has the name
pub record Hit (width : ℕ) (xs : List ℕ) (name i n d : ℕ) : Type 0 where
  pub from : i ≤ d
  pub below : d < i + n
  pub named : name_at width xs d ≡ name

module _ (width : ℕ) (xs : List ℕ) (name : ℕ) where
  from_hit : (d i n : ℕ) → lookup_from width xs name i n ≡ Some d → Hit width xs name i n d
  unfolding first
  from_hit d i zero e = let z : ◌≡◌ {A = ℕ} 0 1 = cc in absurd (omega arith)
  from_hit d i (suc n) e = at (eqb (name_at width xs i) name) refl e (from_hit d (i + 1) n)
    where
      at : (t : Bool) → eqb (name_at width xs i) name ≡ t → cond t (Some i) (lookup_from width xs name (i + 1) n) ≡ Some d
          → (lookup_from width xs name (i + 1) n ≡ Some d → Hit width xs name (i + 1) n d) → Hit width xs name i (suc n) d
      at true q z ih =
          let s : i ≡ d = cc in
          record { from = omega arith; below = omega arith; named = ap (name_at width xs) (sym s) ∙ eqb-true (name_at width xs i) name q }
      at false q z ih =
          let h : Hit width xs name (i + 1) n d = ih z in
          let a : i + 1 ≤ d = h.from in
          let b : d < i + 1 + n = h.below in
          record { from = omega arith; below = omega arith; named = h.named }

  from-none : (i n : ℕ) → lookup_from width xs name i n ≡ None → (k : ℕ) → i ≤ k → k < i + n → name_at width xs k ≡ name → ⊥
  unfolding first
  from-none i zero e k l h q = absurd (omega arith)
  from-none i (suc n) e k l h q = at (eqb (name_at width xs i) name) refl e (ℕ_discrete k i) (λ z l h. from-none (i + 1) n z k l h q)
    where
      at : (t : Bool) → eqb (name_at width xs i) name ≡ t → cond t (Some i) (lookup_from width xs name (i + 1) n) ≡ None → Dec (k ≡ i)
          → (lookup_from width xs name (i + 1) n ≡ None → i + 1 ≤ k → k < i + 1 + n → ⊥) → ⊥
      at true r z d ih = let w : ◌≡◌ {A = ℕ} 0 1 = cc in omega arith
      at false r z (yes s) ih = eqb-false (name_at width xs i) name r (ap (name_at width xs) (sym s) ∙ q)
      at false r z (no ne) ih = ih z (omega arith) (omega arith)

  pub among_hit : (d n : ℕ) → lookup_among width xs name n ≡ Some d → Hit width xs name 0 n d
  unfolding lookup_among
  among_hit d n e = from_hit d 0 n e

  pub lookup_within : (d : ℕ) → lookup_of width xs name ≡ Some d → d < rows_of width xs
  unfolding lookup_of lookup_among
  lookup_within d e = let h : d < 0 + rows_of width xs = (from_hit d 0 (rows_of width xs) e).below in omega arith

  pub lookup_named : (d : ℕ) → lookup_of width xs name ≡ Some d → name_at width xs d ≡ name
  unfolding lookup_of lookup_among
  lookup_named d e = (from_hit d 0 (rows_of width xs) e).named

  pub lookup_none : lookup_of width xs name ≡ None → (k : ℕ) → k < rows_of width xs → name_at width xs k ≡ name → ⊥
  unfolding lookup_of lookup_among
  lookup_none e k h = from-none 0 (rows_of width xs) e k (omega arith) (omega arith)

  -- a row below n that has the name is found below n
  pub among_none : (n : ℕ) → lookup_among width xs name n ≡ None → (k : ℕ) → k < n → name_at width xs k ≡ name → ⊥
  unfolding lookup_among
  among_none n e k h = from-none 0 n e k (omega arith) (omega arith)

  -- where no row below n has the name, none is found
  from_miss : (i n : ℕ) → ((k : ℕ) → i ≤ k → k < i + n → name_at width xs k ≡ name → ⊥) → lookup_from width xs name i n ≡ None
  unfolding first
  from_miss i zero none = refl
  from_miss i (suc n) none =
      rw (ne_eqb (name_at width xs i) name (none i (omega arith) (omega arith))) (from_miss (i + 1) n (λ k l h. none k (omega arith) (omega arith)))

  pub among_miss : (n : ℕ) → ((k : ℕ) → k < n → name_at width xs k ≡ name → ⊥) → lookup_among width xs name n ≡ None
  unfolding lookup_among
  among_miss n none = from_miss 0 n (λ k l h. none k (omega arith))

-- the row at which a region's or an extern's name is found is there, and a region's has the name
pub region-row : (regions : List ℕ) (name d : ℕ) → lookup_region regions name ≡ Some d → d < region_rows regions
region-row = lookup_within region_width

pub region-named : (regions : List ℕ) (name d : ℕ) → lookup_region regions name ≡ Some d → region_name regions d ≡ name
region-named = lookup_named region_width

pub extern_row : (externs : List ℕ) (name d : ℕ) → lookup_extern externs name ≡ Some d → d < extern_rows externs
extern_row = lookup_within extern_width
