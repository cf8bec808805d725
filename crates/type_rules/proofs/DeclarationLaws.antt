-- A name's code by the declarations one after the other; and in distinct names one row has a name. Assumes nothing.
use Rattle.std.proofs.Common.{Option, Some, None}
use Prim.Native.Nat.{ℕ, zero, suc, ◌+◌, ◌*◌, ◌/◌, ◌<◌, ◌≤◌}
use mathlib.Core.Bool.{Bool, true, false, not, cond}
use mathlib.Core.List.{List, [], ◌∷◌}
use mathlib.Core.Path.{◌≡◌, refl, sym, ap, ◌∙◌}
use native.Mathlib.Omega.{arith}
use native.Mathlib.Numerals.{add-one}
use borrow.Author.Tests.{ltb-true, ltb-false}
use lib.Dec.{eqb, ltb}
use lib.ListN.{length, get_or}
use Rattle.std.specs.Option.{is_some}
use Rattle.tables.specs.First.{first}
use Rattle.tables.specs.Rows.{rows_of, region_rows, region_name, region_kind}
use Rattle.tables.specs.Lookup.{name_at, lookup_among, lookup_of, distinct}
use Rattle.tables.proofs.FirstLaws.{never, every-row}
use Rattle.tables.proofs.LookupLaws.{among_none}
use Rattle.type_rules.specs.Numbers.{absent}
use Rattle.type_rules.specs.Codes.{kind_code, found_code, code_of}

-- ---- a code by one search

-- among the n rows from row i on
abbrev code_from : List ℕ → ℕ → ℕ → ℕ → ℕ
code_from regions name i n = first (λ k. eqb (region_name regions k) name) (λ k. kind_code (region_kind regions k)) absent i n

abbrev found_from : List ℕ → ℕ → ℕ → ℕ → Option ℕ
found_from regions name i n = first (λ k. eqb (region_name regions k) name) (λ k. Some k) None i n

found-from : (regions : List ℕ) (name i n : ℕ) → found_code regions (found_from regions name i n) ≡ code_from regions name i n
unfolding first
found-from regions name i zero = refl
found-from regions name i (suc n) = at (eqb (region_name regions i) name) (found-from regions name (i + 1) n)
  where
    at : (t : Bool) → found_code regions (found_from regions name (i + 1) n) ≡ code_from regions name (i + 1) n
        → found_code regions (cond t (Some i) (found_from regions name (i + 1) n)) ≡ cond t (kind_code (region_kind regions i)) (code_from regions name (i + 1) n)
    at true ih = refl
    at false ih = ih

pub code_first : (regions : List ℕ) (name : ℕ) → code_of regions name ≡ first (λ k. eqb (region_name regions k) name) (λ k. kind_code (region_kind regions k)) absent 0 (region_rows regions)
unfolding code_of lookup_of lookup_among
code_first regions name = found-from regions name 0 (region_rows regions)

pub code_empty : (name : ℕ) → code_of [] name ≡ absent
unfolding first
code_empty name = code_first [] name

-- ---- a table's first region, and the others

module _ (a b c : ℕ) (xs : List ℕ) where
  later_word : (j : ℕ) → get_or (a ∷ b ∷ c ∷ xs) (j + 3) 0 ≡ get_or xs j 0
  later_word j = let e : j + 3 ≡ suc (suc (suc j)) = omega arith in ap (λ (k : ℕ). get_or (a ∷ b ∷ c ∷ xs) k 0) e

  later_name : (k : ℕ) → region_name (a ∷ b ∷ c ∷ xs) (k + 1) ≡ region_name xs k
  later_name k = let e : (k + 1) * 3 ≡ k * 3 + 3 = omega arith in ap (λ (j : ℕ). get_or (a ∷ b ∷ c ∷ xs) j 0) e ∙ later_word (k * 3)

  later_kind : (k : ℕ) → region_kind (a ∷ b ∷ c ∷ xs) (k + 1) ≡ region_kind xs k
  later_kind k = let e : (k + 1) * 3 + 1 ≡ (k * 3 + 1) + 3 = omega arith in ap (λ (j : ℕ). get_or (a ∷ b ∷ c ∷ xs) j 0) e ∙ later_word (k * 3 + 1)

  later : (name i n : ℕ) → code_from (a ∷ b ∷ c ∷ xs) name (i + 1) n ≡ code_from xs name i n
  unfolding first
  later name i zero = refl
  later name i (suc n) = rw (later_name i, later_kind i, later name (i + 1) n)

  rows_suc : region_rows (a ∷ b ∷ c ∷ xs) ≡ suc (region_rows xs)
  rows_suc = (let e : length (a ∷ b ∷ c ∷ xs) / 3 ≡ length xs / 3 + 1 = omega arith in e) ∙ add-one _

  -- the first region has the name, or the others decide
  pub code_cons : (name : ℕ) → code_of (a ∷ b ∷ c ∷ xs) name ≡ cond (eqb a name) (kind_code b) (code_of xs name)
  unfolding first
  code_cons name = code_first (a ∷ b ∷ c ∷ xs) name ∙ rw (rows_suc, later name 0 (region_rows xs), code_first xs name)

-- ---- where no two rows have one name

nothing_found : (f : Option ℕ) → not (is_some f) ≡ true → f ≡ None
nothing_found (Some k) e = never e
nothing_found None e = refl

module _ (width : ℕ) (xs : List ℕ) (names : distinct width xs ≡ true) where
  no_earlier : (j k : ℕ) → j < k → k < rows_of width xs → name_at width xs j ≡ name_at width xs k → ⊥
  unfolding distinct
  no_earlier j k l h =
      let e = every-row _ _ names k h in
      among_none width xs (name_at width xs k) k (nothing_found (lookup_among width xs (name_at width xs k) k) e) j l

  pub one-row : (j k : ℕ) → j < rows_of width xs → k < rows_of width xs → name_at width xs j ≡ name_at width xs k → j ≡ k
  one-row j k a b e = at (ltb j k) (ltb k j) refl refl
    where
      at : (p q : Bool) → ltb j k ≡ p → ltb k j ≡ q → j ≡ k
      at true q h i = absurd (no_earlier j k (ltb-true j k h) b e)
      at false true h i = absurd (no_earlier k j (ltb-true k j i) a (sym e))
      at false false h i =
          let l : k ≤ j = ltb-false j k h in
          let m : j ≤ k = ltb-false k j i in
          omega arith
