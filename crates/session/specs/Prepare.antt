-- 01, Order: "1, 2, 3, 10, 4", with which open, forward, back and run begin.
use Rattle.std.specs.Prelude.{ℕ, ◌*◌, ◌/◌, ◌%◌, ◌≤◌, Bool, ◌&&◌, List, ◌≡◌, eqb, leb, Ok}
use Rattle.tables.specs.Refusal.{buffer_size}
use Rattle.tables.specs.Outcome.{Outcome, ◌>>=◌, ◌>>◌, need}
use Rattle.tables.specs.Tables.{Tables}
use Rattle.loader.specs.Load.{load_look}
use Rattle.tables.specs.Cells.{cells_of}
use Rattle.journal.specs.Cells.{cell_width}
use Rattle.journal.specs.Entries.{entry_width, entry_limit}
use Rattle.operands.specs.Reach.{Layout}

-- "1, 2, 3, 10", the tables' looks: the number of cells
unfoldable pub tables_look : Tables → Outcome ℕ
tables_look t = do
  load_look t
  cells_of t.regions

-- "The journal, at most 2,048 entries of three words": the entries in so many words
abbrev pub entries_of : ℕ → ℕ
entries_of words = words / entry_width

-- 4: "lent buffer too short, or journal not whole entries or too long". memory and journal are lengths in words.
unfoldable pub buffers_fit : ℕ → ℕ → ℕ → Bool
buffers_fit cells memory journal = leb (cell_width * cells) memory && (eqb (journal % entry_width) 0 && leb (entries_of journal) entry_limit)

-- "1, 2, 3, 10, 4": the number of cells
unfoldable pub prepared_of : Tables → ℕ → ℕ → Outcome ℕ
prepared_of t memory journal = do
  n ← tables_look t
  need (buffers_fit n memory journal) buffer_size
  Ok n

-- What the functions behind these looks ask for: the tables are loaded, the cells are those of their regions, and the journal has whole entries, not too many.
pub record Ready (t : Tables) (cells : List ℕ) (journal : ℕ) : Type 0 where
  pub loads : load_look t ≡ Ok tt
  pub layout : Layout t.regions cells
  pub whole : journal % entry_width ≡ 0
  pub short : entries_of journal ≤ entry_limit
