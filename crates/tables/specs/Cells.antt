-- "Regions lie in table order, at most 4,096 cells." 10: "over 4,096 cells".
use Rattle.std.specs.Prelude.{ℕ, List, leb, Ok}
use Rattle.tables.specs.Refusal.{too_many_cells}
use Rattle.tables.specs.Outcome.{Outcome, ◌>>◌, need}
use Rattle.tables.specs.Rows.{region_rows, region_length}
use Rattle.tables.specs.Sum.{sum_to}

-- "at most 4,096 cells"
abbrev pub cell_limit : ℕ
cell_limit = 4096

-- what region r adds to the memory: its length, which is also the bound of its indices (operands' `index_fits`)
abbrev pub cells_in : List ℕ → ℕ → ℕ
cells_in regions r = region_length regions r

-- "Regions lie in table order": the number of cells before region r
unfoldable pub first_cell : List ℕ → ℕ → ℕ
first_cell regions r = sum_to (cells_in regions) r

-- the cell of its index 0, from which its addresses count
abbrev pub origin : List ℕ → ℕ → ℕ
origin regions r = first_cell regions r

-- all cells
unfoldable pub cell_count : List ℕ → ℕ
cell_count regions = first_cell regions (region_rows regions)

unfoldable pub cells_of : List ℕ → Outcome ℕ
cells_of regions = need (leb (cell_count regions) cell_limit) too_many_cells >> Ok (cell_count regions)
