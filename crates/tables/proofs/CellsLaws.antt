-- Laws of the cells' layout: where regions lie, and the number of cells by what a sum from the first region on has reached. Assumes nothing.
use Rattle.std.proofs.Common.{ℕ, ◌+◌, ◌<◌, ◌≤◌, Bool, true, false, List, ◌≡◌, refl, ap, arith, leb, le-leb, leb-true, Ok, Err}
use borrow.Author.Tests.{lt-leb}
use Rattle.tables.specs.Outcome.{◌>>◌, need}
use Rattle.tables.specs.Rows.{region_rows, region_length}
use Rattle.tables.specs.Refusal.{too_many_cells}
use Rattle.tables.specs.Cells.{cell_limit, cells_in, first_cell, origin, cell_count, cells_of}
use Rattle.tables.proofs.SumLaws.{sum-next, sum_mono}

module _ (regions : List ℕ) where
  -- a region starts where the one before ends
  pub first_cell-next : (r : ℕ) → first_cell regions (r + 1) ≡ first_cell regions r + cells_in regions r
  unfolding first_cell
  first_cell-next r = sum-next (cells_in regions) r

  -- a later region starts no earlier
  pub first_cell_mono : (r s : ℕ) → r ≤ s → first_cell regions r ≤ first_cell regions s
  unfolding first_cell
  first_cell_mono = sum_mono (cells_in regions)

  -- the cells of a region of the table lie among all cells
  pub first_cell-within : (r : ℕ) → r < region_rows regions → first_cell regions r + cells_in regions r ≤ cell_count regions
  unfolding cell_count
  first_cell-within r h =
      let e : first_cell regions (r + 1) ≡ first_cell regions r + cells_in regions r = first_cell-next r in
      let k : first_cell regions (r + 1) ≤ first_cell regions (region_rows regions) = first_cell_mono (r + 1) (region_rows regions) (omega arith) in
      omega arith

  -- so do the cells at its indices
  pub origin-within : (r : ℕ) → r < region_rows regions → origin regions r + region_length regions r ≤ cell_count regions
  origin-within = first_cell-within

  pub cells_over : cell_limit < cell_count regions → Err too_many_cells ≡ cells_of regions
  unfolding cells_of ◌>>◌ need
  cells_over h = rw (lt-leb (cell_count regions) cell_limit h)

  pub cells-counted : {n : ℕ} → n ≡ cell_count regions → n ≤ cell_limit → Ok n ≡ cells_of regions
  unfolding cells_of ◌>>◌ need
  cells-counted {n} e h = rw (le-leb (cell_count regions) cell_limit (omega arith)) (ap Ok e)

  -- what a count that was given is
  pub cells_given : (n : ℕ) → cells_of regions ≡ Ok n → (n ≡ cell_count regions) × (n ≤ cell_limit)
  unfolding cells_of ◌>>◌ need
  cells_given n e = at (leb (cell_count regions) cell_limit) (λ t. leb-true (cell_count regions) cell_limit t) e
    where
      at : (t : Bool) → (t ≡ true → cell_count regions ≤ cell_limit) → (need t too_many_cells >> Ok (cell_count regions)) ≡ Ok n → (n ≡ cell_count regions) × (n ≤ cell_limit)
      at true h z = let q : cell_count regions ≡ n = cc in let l : cell_count regions ≤ cell_limit = h refl in (omega arith, omega arith)
      at false h z = let w : ◌≡◌ {A = ℕ} 0 1 = cc in absurd (omega arith)
