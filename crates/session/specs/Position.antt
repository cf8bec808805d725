-- 01, Order: "1, 2, 3, 10, 4, 19", with which forward, back and run begin; 19 and 13 are looks at a position.
use Rattle.std.specs.Prelude.{ℕ, ◌+◌, ◌-◌, Bool, ◌&&◌, List, length, leb, Ok}
use Rattle.tables.specs.Refusal.{foreign_position, journal_full}
use Rattle.tables.specs.Outcome.{Outcome, ◌>>=◌, ◌>>◌, need}
use Rattle.tables.specs.Tables.{Tables}
use Rattle.tables.specs.Rows.{instruction_rows}
use Rattle.journal.specs.declared.cells.Write.{Write}
use Rattle.journal.specs.declared.position.Position.{Position}
use Rattle.session.specs.Prepare.{entries_of, prepared_of}

-- "19 position past its tables", of the instructions and so many entries; 02, P4: "more steps than entries is 19". The end is no row, and a position all the same.
unfoldable pub position_fits : List ℕ → ℕ → Position → Bool
position_fits instructions entries p = leb p.row (instruction_rows instructions) && (leb p.done p.used && leb p.used entries)

-- "1, 2, 3, 10, 4, 19": the number of cells. memory and journal are lengths in words.
unfoldable pub placed_look : Tables → ℕ → ℕ → Position → Outcome ℕ
placed_look t memory journal p = do
  n ← prepared_of t memory journal
  need (position_fits t.instructions (entries_of journal) p) foreign_position
  Ok n

-- "13 journal full, exactly when changes plus 1 exceed entries left"
unfoldable pub room_for : ℕ → Position → List Write → Outcome (List Write)
room_for entries p ws = need (leb (length ws + 1) (entries - p.used)) journal_full >> Ok ws
