-- Cells of the kinds that the regions declare.
use Rattle.std.specs.Prelude.{ℕ, ◌*◌, ◌<◌, true, List, ◌≡◌, length}
use Rattle.words.specs.Kind.{fits_kind}
use Rattle.tables.specs.Cells.{cell_count}
use Rattle.journal.specs.declared.cells.Write.{Write}
use Rattle.journal.specs.Cells.{cell_width, held}
use Rattle.operands.specs.Kinds.{declared_kind}

-- what a cell holds, or gets: its declared kind, and a word of that kind
pub record Fits (regions : List ℕ) (w : Write) : Type 0 where
  pub kind : w.kind ≡ declared_kind regions w.cell
  pub word : fits_kind w.kind w.word ≡ true

-- demand 3: "every cell has its declared kind"
pub record Typed (regions cells : List ℕ) : Type 0 where
  pub wide : length cells ≡ cell_width * cell_count regions
  pub each : (c : ℕ) → c < cell_count regions → Fits regions (held cells c)
