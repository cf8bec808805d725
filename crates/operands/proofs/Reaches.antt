-- Where a row's names and written indices were found, the regions and the cells are there. Assumes nothing.
use Rattle.std.proofs.Common.{Ok}
use Prim.Native.Nat.{ℕ, ◌<◌}
use mathlib.Core.Bool.{true}
use mathlib.Core.List.{List}
use mathlib.Core.Path.{◌≡◌, refl}
use native.Mathlib.Omega.{arith}
use Rattle.tables.specs.Rows.{region_rows}
use Rattle.tables.specs.Cells.{cell_count}
use Rattle.tables.specs.declared.rows.Instruction.{Instruction}
use Rattle.tables.specs.Names.{Use, unused, region, reference, is_name, has_index, operands_of, names_first, indexes_first, names_second, indexes_second, names_source}
use Rattle.operands.specs.Address.{named_of, names_of, written_of, addresses_of}
use Rattle.operands.specs.Reach.{There, Laid, Layout}
use Rattle.operands.specs.declared.address.NamedRegions.{NamedRegions}
use Rattle.operands.specs.declared.address.Addresses.{Addresses}
use Rattle.operands.proofs.Binds.{bound}
use Rattle.operands.proofs.AddressLaws.{named-within, written_within}

-- an operand with a written index is a name
indexed_name : (u : Use) → has_index u ≡ true → is_name u ≡ true
indexed_name unused e = e
indexed_name region e = refl
indexed_name reference e = refl

pub first-named : (family : ℕ) → indexes_first family ≡ true → names_first family ≡ true
unfolding indexes_first names_first
first-named family e = indexed_name (operands_of family).first e

pub second-named : (family : ℕ) → indexes_second family ≡ true → names_second family ≡ true
unfolding indexes_second names_second
second-named family e = indexed_name (operands_of family).second e

-- the regions of all names
pub record Regions (regions : List ℕ) (x : Instruction) (n : NamedRegions) : Type 0 where
  pub first : names_first x.family ≡ true → n.first < region_rows regions
  pub second : names_second x.family ≡ true → n.second < region_rows regions
  pub source : names_source x.source_form ≡ true → n.source < region_rows regions

module _ (regions : List ℕ) (x : Instruction) where
  pub names-within : {n : NamedRegions} → names_of regions x ≡ Ok n → Regions regions x n
  unfolding names_of
  names-within {n} e =
      let b = bound (named_of regions (names_first x.family) x.first_name) _ n e in
      let c = bound (named_of regions (names_second x.family) x.second_name) _ n b.rest in
      let d = bound (named_of regions (names_source x.source_form) x.source_first) _ n c.rest in
      let q : record { first = b.value; second = c.value; source = d.value } ≡ n = cc d.rest in
      rw (← q) (record {
        first = named-within regions (names_first x.family) x.first_name b.given;
        second = named-within regions (names_second x.family) x.second_name c.given;
        source = named-within regions (names_source x.source_form) x.source_first d.given;
      })

-- the cells of all written indices
pub record Cells (regions : List ℕ) (x : Instruction) (a : Addresses) : Type 0 where
  pub first : indexes_first x.family ≡ true → a.first < cell_count regions
  pub second : indexes_second x.family ≡ true → a.second < cell_count regions
  pub source : names_source x.source_form ≡ true → a.source < cell_count regions

pub addresses_within : {regions : List ℕ} → Laid regions → (x : Instruction) {n : NamedRegions} → Regions regions x n → {a : Addresses}
    → addresses_of regions x n ≡ Ok a → Cells regions x a
unfolding addresses_of
addresses_within {regions} laid x {n} g {a} e =
    let b = bound (written_of regions (indexes_first x.family) n.first x.first_index) _ a e in
    let c = bound (written_of regions (indexes_second x.family) n.second x.second_index) _ a b.rest in
    let d = bound (written_of regions (names_source x.source_form) n.source x.source_second) _ a c.rest in
    let q : record { first = b.value; second = c.value; source = d.value } ≡ a = cc d.rest in
    rw (← q) (record {
      first = written_within laid (indexes_first x.family) n.first x.first_index (λ t. g.first (first-named x.family t)) b.given;
      second = written_within laid (indexes_second x.family) n.second x.second_index (λ t. g.second (second-named x.family t)) c.given;
      source = written_within laid (names_source x.source_form) n.source x.source_second g.source d.given;
    })

-- ---- in the cells of all regions

pub in_cells : {regions cells : List ℕ} → Layout regions cells → {c : ℕ} → c < cell_count regions → There cells c
in_cells l h = omega (arith, l.wide)
