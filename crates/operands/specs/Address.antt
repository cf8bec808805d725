-- Where a row's operands lie: the regions that it names, then the cells at its written indices.
use Rattle.std.specs.Prelude.{ℕ, ◌+◌, Bool, true, false, not, ◌&&◌, List, ltb, Option, Ok}
use Rattle.std.specs.Option.{ok_or}
use Rattle.words.specs.Integer.{integer_is_negative}
use Rattle.tables.specs.Refusal.{index_past_length, no_rule}
use Rattle.tables.specs.Outcome.{Outcome, ◌>>=◌, ◌>>◌, need}
use Rattle.tables.specs.Rows.{region_length}
use Rattle.tables.specs.Lookup.{lookup_region}
use Rattle.tables.specs.Cells.{origin}
use Rattle.tables.specs.Names.{names_first, indexes_first, names_second, indexes_second, names_source}
use Rattle.tables.specs.declared.rows.Instruction.{Instruction}
use Rattle.operands.specs.declared.address.NamedRegions.{NamedRegions}
use Rattle.operands.specs.declared.address.Addresses.{Addresses}

-- ---- the address of a cell

-- The cell at an index of region r. 01, Machine: "Regions lie in table order". Every address is made here; its laws are in proofs/AddressLaws.antt.
unfoldable pub address_of : List ℕ → ℕ → ℕ → ℕ
address_of regions r i = origin regions r + i

-- 14: "index at or past length, or negative"
unfoldable pub index_fits : List ℕ → ℕ → ℕ → Bool
index_fits regions r i = not (integer_is_negative i) && ltb i (region_length regions r)

unfoldable pub indexed_of : List ℕ → ℕ → ℕ → Outcome ℕ
indexed_of regions r i = need (index_fits regions r i) index_past_length >> Ok (address_of regions r i)

-- ---- 18: all names

abbrev pub found_region : Option ℕ → Outcome ℕ
found_region r = ok_or r no_rule

-- the region of a name that is used
unfoldable pub named_of : List ℕ → Bool → ℕ → Outcome ℕ
named_of regions true name = found_region (lookup_region regions name)
named_of regions false name = Ok 0

-- 01, Order: "18 names". Overwritten operands too.
unfoldable pub names_of : List ℕ → Instruction → Outcome NamedRegions
names_of regions x = do
  a ← named_of regions (names_first x.family) x.first_name
  b ← named_of regions (names_second x.family) x.second_name
  c ← named_of regions (names_source x.source_form) x.source_first
  Ok (record { first = a; second = b; source = c })

-- ---- 14: all written indices

-- the cell of an index that is written
unfoldable pub written_of : List ℕ → Bool → ℕ → ℕ → Outcome ℕ
written_of regions true r i = indexed_of regions r i
written_of regions false r i = Ok 0

-- 01, Order: "14 written indices"
unfoldable pub addresses_of : List ℕ → Instruction → NamedRegions → Outcome Addresses
addresses_of regions x n = do
  a ← written_of regions (indexes_first x.family) n.first x.first_index
  b ← written_of regions (indexes_second x.family) n.second x.second_index
  c ← written_of regions (names_source x.source_form) n.source x.source_second
  Ok (record { first = a; second = b; source = c })
