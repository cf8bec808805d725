-- What the regions declare of each cell, and the cells that open leaves.
use Rattle.std.specs.Prelude.{ℕ, zero, suc, ◌+◌, cond, List, [], ◌∷◌, ltb}
use Rattle.tables.specs.Rows.{region_rows, region_kind}
use Rattle.tables.specs.Cells.{first_cell, cell_count}

-- "Regions lie in table order": the row of the last of the first n regions that starts at or before cell c. An empty region is passed over, as the next one starts at the same cell.
unfoldable pub region_among : List ℕ → ℕ → ℕ → ℕ
region_among regions zero c = 0
region_among regions (suc n) c = cond (ltb c (first_cell regions n)) (region_among regions n c) n

-- the region that a cell lies in
unfoldable pub region_of : List ℕ → ℕ → ℕ
region_of regions c = region_among regions (region_rows regions) c

-- "its declared kind"
unfoldable pub declared_kind : List ℕ → ℕ → ℕ
declared_kind regions c = region_kind regions (region_of regions c)

-- n cells from cell c on
unfoldable pub zeros_from : List ℕ → ℕ → ℕ → List ℕ
zeros_from regions c zero = []
zeros_from regions c (suc n) = declared_kind regions c ∷ 0 ∷ zeros_from regions (c + 1) n

-- "Open zeroes each cell with its declared kind"
unfoldable pub zeros : List ℕ → List ℕ
zeros regions = zeros_from regions 0 (cell_count regions)
