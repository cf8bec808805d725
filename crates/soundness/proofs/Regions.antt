-- Where regions and cells lie: the cell at an index of a region has its kind; a declared name has a region of the kind
-- that is the name's code. Assumes nothing.
use Rattle.std.proofs.Common.{ℕ, zero, suc, ◌<◌, ◌≤◌, Bool, true, false, cond, List, ◌≡◌, refl, sym, ◌∙◌, arith, ltb, Option, Some, None}
use mathlib.Core.Bool.{false≢true}
use Rattle.tables.specs.declared.refusal.Refusal.{Refusal}
use Rattle.tables.specs.Refusal.{index_past_length}
use Rattle.tables.specs.Rows.{region_rows, region_kind, region_length}
use Rattle.tables.specs.Sum.{sum_to}
use Rattle.tables.specs.Cells.{first_cell, cell_count}
use Rattle.tables.specs.Lookup.{lookup_region}
use Rattle.tables.proofs.LookupLaws.{region-row}
use Rattle.type_rules.specs.Codes.{code_of}
use Rattle.type_rules.proofs.CodeLaws.{code_kind, code_none}
use Rattle.operands.specs.Kinds.{region_among, region_of, declared_kind}
use Rattle.operands.specs.Reach.{Laid}
use Rattle.operands.specs.Address.{address_of, index_fits, indexed_of, found_region, named_of, written_of}
use Rattle.operands.proofs.AddressLaws.{address-within, index_below}
use Rattle.operands.proofs.KindsLaws.{kind_at}
use Rattle.machine.proofs.Ends.{Ends, fine, tested, weaken}

-- ---- the region of a cell

module _ (regions : List ℕ) where
  among_below : (n c : ℕ) → region_among regions (suc n) c < suc n
  unfolding region_among
  among_below zero c = at (ltb c (first_cell regions 0))
    where
      at : (t : Bool) → cond t 0 0 < 1
      at true = omega arith
      at false = omega arith
  among_below (suc n) c = at (ltb c (first_cell regions (suc n))) (among_below n c)
    where
      at : (t : Bool) → region_among regions (suc n) c < suc n → cond t (region_among regions (suc n) c) (suc n) < suc (suc n)
      at true h = omega arith
      at false h = omega arith

  -- a cell lies in a region of the table
  pub region-below : (c : ℕ) → c < cell_count regions → region_of regions c < region_rows regions
  unfolding region_of cell_count first_cell sum_to
  region-below c h = at (region_rows regions) h
    where
      at : (n : ℕ) → c < first_cell regions n → region_among regions n c < n
      at zero h = absurd (omega arith)
      at (suc n) h = among_below n c

-- ---- regions and cells of kind k

pub record Region (regions : List ℕ) (k r : ℕ) : Type 0 where
  pub laid : Laid regions
  pub there : r < region_rows regions
  pub is : region_kind regions r ≡ k
  pub small : k < 4

pub record Cell (regions : List ℕ) (k c : ℕ) : Type 0 where
  pub there : c < cell_count regions
  pub is : declared_kind regions c ≡ k
  pub small : k < 4

pub cell_of : {regions : List ℕ} {k r : ℕ} → Region regions k r → (i : ℕ) → i < region_length regions r → Cell regions k (address_of regions r i)
cell_of {regions} {k} {r} g i h = record {
  there = address-within g.laid r i g.there h;
  is = kind_at g.laid r i g.there h ∙ g.is;
  small = g.small;
}

-- ---- names and indices

-- what the looks before leave: not too many cells (10), and the kinds 0 to 3 (2)
pub record RegionsFit (regions : List ℕ) : Type 0 where
  pub laid : Laid regions
  pub kind : (r : ℕ) → r < region_rows regions → region_kind regions r ≤ 3

module _ {regions : List ℕ} (fit : RegionsFit regions) (name : ℕ) where
  pub region-at : (r : ℕ) → lookup_region regions name ≡ Some r → Region regions (code_of regions name) r
  region-at r e =
      let l : r < region_rows regions = region-row regions name r e in
      let h : region_kind regions r ≤ 3 = fit.kind r l in
      let q : code_of regions name ≡ region_kind regions r = code_kind regions name e (omega arith) in
      record { laid = fit.laid; there = l; is = sym q; small = omega arith }

  -- a name that is used, and declared
  pub named_ends : {R : Refusal → Type 0} (t : Bool) → (t ≡ true → code_of regions name < 8)
      → Ends R (λ r. t ≡ true → Region regions (code_of regions name) r) (named_of regions t name)
  unfolding named_of
  named_ends {R} true d = go (lookup_region regions name) refl
    where
      go : (f : Option ℕ) → lookup_region regions name ≡ f → Ends R (λ r. true ≡ true → Region regions (code_of regions name) r) (found_region f)
      go (Some r) e = fine (λ t. region-at r e)
      go None e = absurd (omega (arith, d refl, code_none regions name refl e))
  named_ends false d = fine {a = 0} (λ e. absurd (false≢true e))

module _ {R : Refusal → Type 0} {regions : List ℕ} {k r : ℕ} where
  -- an index that may be past the length
  pub indexed_ends : (i : ℕ) → Region regions k r → R index_past_length → Ends R (λ c. Cell regions k c) (indexed_of regions r i)
  unfolding indexed_of
  indexed_ends i g z = tested index_past_length (index_fits regions r i) z (λ e. fine (cell_of g i (index_below regions r i e)))

  pub written_ends : (t : Bool) (i : ℕ) → (t ≡ true → Region regions k r) → R index_past_length → Ends R (λ c. t ≡ true → Cell regions k c) (written_of regions t r i)
  unfolding written_of
  written_ends true i g z = weaken (λ c h t. h) (indexed_ends i (g refl) z)
  written_ends false i g z = fine {a = 0} (λ e. absurd (false≢true e))
