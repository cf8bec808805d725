-- What the functions ask for, index safety alone: the cells and the regions that they look at are there.
use Rattle.std.specs.Prelude.{ℕ, ◌+◌, ◌*◌, ◌<◌, ◌≤◌, true, List, ◌≡◌, length}
use Rattle.tables.specs.Rows.{region_rows}
use Rattle.tables.specs.Cells.{cell_limit, cell_count}
use Rattle.tables.specs.Names.{indexes_first, indexes_second, names_source}
use Rattle.tables.specs.declared.rows.Instruction.{Instruction}
use Rattle.journal.specs.Cells.{cell_width}
use Rattle.operands.specs.declared.address.NamedRegions.{NamedRegions}

-- both words of cell c
abbrev pub There : List ℕ → ℕ → Type 0
There cells c = cell_width * c + 1 < length cells

-- the source of a row, where it is a reference
abbrev pub SourceThere : List ℕ → Instruction → ℕ → Type 0
SourceThere cells x c = names_source x.source_form ≡ true → There cells c

-- what every address rests on: "at most 4,096 cells"
pub record Laid (regions : List ℕ) : Type 0 where
  pub few : cell_count regions ≤ cell_limit

-- the cells of all regions
pub record Layout (regions cells : List ℕ) : Type 0 where
  pub laid : Laid regions
  pub wide : length cells ≡ cell_width * cell_count regions

-- the regions whose written indices are looked at
pub record Named (regions : List ℕ) (x : Instruction) (n : NamedRegions) : Type 0 where
  pub laid : Laid regions
  pub first : indexes_first x.family ≡ true → n.first < region_rows regions
  pub second : indexes_second x.family ≡ true → n.second < region_rows regions
  pub source : names_source x.source_form ≡ true → n.source < region_rows regions
