-- What the loops that zero the cells have reached.
use Rattle.std.specs.Prelude.{ℕ, ◌<◌, List, ◌≡◌}
use Rattle.tables.specs.Cells.{first_cell}
use Rattle.journal.specs.Cells.{held}
use Rattle.journal.specs.declared.cells.Write.{Write}
use Rattle.operands.specs.Kinds.{declared_kind}

-- "Open zeroes each cell with its declared kind": cell c
abbrev pub zero_cell : List ℕ → ℕ → Write
zero_cell regions c = record { cell = c; kind = declared_kind regions c; word = 0 }

-- the cells before cell c are zero
abbrev pub Zeroed : List ℕ → List ℕ → ℕ → Type 0
Zeroed regions cells c = (k : ℕ) → k < c → held cells k ≡ zero_cell regions k

-- at region r, whose first cell is c
pub record ZeroedTo (regions cells : List ℕ) (r c : ℕ) : Type 0 where
  pub first : c ≡ first_cell regions r
  pub zeroed : Zeroed regions cells c
