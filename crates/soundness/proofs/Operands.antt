-- Where a row's operands lie: its declared names have regions of the codes that the type check gives them, and its written indices cells of these kinds.
-- And its source, by its form. Assumes nothing.
use Prim.Native.Nat.{ℕ, ◌<◌}
use mathlib.Core.Bool.{true}
use mathlib.Core.List.{List}
use mathlib.Core.Path.{◌≡◌, refl}
use native.Mathlib.Omega.{arith}
use lib.Dec.{eqb}
use borrow.Author.Tests.{eqb-true}
use Rattle.tables.specs.declared.rows.Instruction.{Instruction}
use Rattle.type_rules.specs.Codes.{first_code, second_code, reference_code}
use Rattle.tables.specs.Source as source
use Rattle.tables.specs.Names.{names_first, indexes_first, names_second, indexes_second, names_source}
use Rattle.operands.specs.Address.{names_of, addresses_of}
use Rattle.operands.specs.declared.address.NamedRegions.{NamedRegions}
use Rattle.operands.specs.declared.address.Addresses.{Addresses}
use Rattle.operands.proofs.Reaches.{first-named, second-named}
use Rattle.machine.proofs.Ends.{Ends, Ruled, fine, bind}
use Rattle.soundness.proofs.Regions.{RegionsFit, Region, Cell, named_ends, written_ends}

-- the names that a row of family f uses are declared
pub record Declared (regions : List ℕ) (x : Instruction) (f : ℕ) : Type 0 where
  pub first : names_first f ≡ true → first_code regions x < 8
  pub second : names_second f ≡ true → second_code regions x < 8
  pub source : names_source x.source_form ≡ true → reference_code regions x < 8

-- their regions
pub record Named (regions : List ℕ) (x : Instruction) (f : ℕ) (n : NamedRegions) : Type 0 where
  pub first : names_first f ≡ true → Region regions (first_code regions x) n.first
  pub second : names_second f ≡ true → Region regions (second_code regions x) n.second
  pub source : names_source x.source_form ≡ true → Region regions (reference_code regions x) n.source

-- and the cells at its written indices
pub record Placed (regions : List ℕ) (x : Instruction) (f : ℕ) (n : NamedRegions) (a : Addresses) : Type 0 where
  pub named : Named regions x f n
  pub first : indexes_first f ≡ true → Cell regions (first_code regions x) a.first
  pub second : indexes_second f ≡ true → Cell regions (second_code regions x) a.second
  pub source : names_source x.source_form ≡ true → Cell regions (reference_code regions x) a.source

-- ---- names and indices

module _ {regions : List ℕ} (x : Instruction) where
  pub names_ends : RegionsFit regions → Declared regions x x.family → Ends Ruled (Named regions x x.family) (names_of regions x)
  unfolding names_of
  names_ends fit d =
      let f = x.family in
      bind (named_ends fit x.first_name (names_first f) d.first) (λ a ha.
      bind (named_ends fit x.second_name (names_second f) d.second) (λ b hb.
      bind (named_ends fit x.source_first (names_source x.source_form) d.source) (λ c hc.
      fine (record { first = ha; second = hb; source = hc }))))

  pub addresses_ends : (n : NamedRegions) → Named regions x x.family n → Ends Ruled (Placed regions x x.family n) (addresses_of regions x n)
  unfolding addresses_of
  addresses_ends n h =
      let f = x.family in
      bind (written_ends (indexes_first f) x.first_index (λ e. h.first (first-named f e)) refl) (λ i hi.
      bind (written_ends (indexes_second f) x.second_index (λ e. h.second (second-named f e)) refl) (λ j hj.
      bind (written_ends (names_source x.source_form) x.source_second h.source refl) (λ k hk.
      fine (record { named = h; first = hi; second = hj; source = hk }))))

-- ---- the source, by its form

-- no source is no reference
pub no_source : {A : Type 0} (form : ℕ) → eqb form source.none ≡ true → names_source form ≡ true → A
no_source form e h = absurd (omega (arith, eqb-true form source.none e, eqb-true form source.reference h))
