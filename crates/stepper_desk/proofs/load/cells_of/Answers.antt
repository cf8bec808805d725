use Rattle.std.proofs.Common.{◌≡◌, ◌≤◌, ℕ, List, Result, Ok, Err, arith, sym}
use Rattle.std.specs.Result.{result_unwrap_or}
use Rattle.tables.specs.Cells.{cells_of}
use Rattle.tables.specs.declared.refusal.Refusal.{Refusal}
use Rattle.tables.proofs.CellsLaws.{cells_given}
use Rattle.stepper_desk.proofs.load.cells_of.Goals as goal

within : (regions : List ℕ) (r : Result ℕ Refusal) → r ≡ cells_of regions → result_unwrap_or r 4096 ≤ 4096
within regions (Ok n) e = (cells_given regions n (sym e)).1
within regions (Err x) e = omega arith

pub returns : goal.returns
returns c = rw c.unwrap_or.ensures (within _ _ c.cell_count.ensures)
