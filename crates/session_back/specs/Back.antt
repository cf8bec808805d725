-- 01, Order: "Back: 1, 2, 3, 10, 4, 19 position, 12, 19 journal (none used, count over what remains, cell absent)."; 02, P4: "an absent row is 19".
use Rattle.session.specs.Answer.{StepAnswer}
use Rattle.std.specs.Prelude.{ℕ, ◌+◌, ◌*◌, ◌-◌, List, length, ltb, Ok, Err}
use Rattle.tables.specs.Refusal.{nothing_to_take_back, foreign_position}
use Rattle.tables.specs.Outcome.{Outcome, ◌>>=◌, ◌>>◌, need}
use Rattle.tables.specs.Tables.{Tables}
use Rattle.tables.specs.Rows.{instruction_rows}
use Rattle.tables.specs.Cells.{cell_count}
use Rattle.journal.specs.declared.position.Position.{Position}
use Rattle.journal.specs.Position.{retreated}
use Rattle.journal.specs.Cells.{cell_width}
use Rattle.journal.specs.Entries.{changes_at, row_left_at, entries_at}
use Rattle.journal.specs.Restore.{present, undone}
use Rattle.session.specs.Position.{placed_look}
use Rattle.session.specs.Leaves.{Leaves, leaves, with_tail}

-- ---- the looks

-- the change count of the last entry used, which closes the last step
abbrev pub last_changes : List ℕ → Position → ℕ
last_changes journal p = changes_at journal (p.used - 1)

-- the row that the last step left, by that entry
abbrev pub last_row : List ℕ → Position → ℕ
last_row journal p = row_left_at journal (p.used - 1)

-- the first of the entries of a step with so many changes
abbrev pub first_entry : Position → ℕ → ℕ
first_entry p changes = p.used - (changes + 1)

-- from 12 on, of the instructions and so many cells: the change count
unfoldable pub journal_look : List ℕ → ℕ → List ℕ → Position → Outcome ℕ
journal_look instructions cells journal p = do
  need (ltb 0 p.done) nothing_to_take_back
  need (ltb 0 p.used) foreign_position
  need (ltb (last_changes journal p) p.used) foreign_position
  need (present cells (entries_at journal (first_entry p (last_changes journal p)) (last_changes journal p))) foreign_position
  need (ltb (last_row journal p) (instruction_rows instructions)) foreign_position
  Ok (last_changes journal p)

-- all of them; memory's length in words
unfoldable pub back_look : Tables → ℕ → List ℕ → Position → Outcome ℕ
back_look t memory journal p = do
  n ← placed_look t memory (length journal) p
  journal_look t.instructions n journal p

-- ---- what back leaves; it writes no journal word

abbrev pub Back : Type 0
Back = Leaves StepAnswer (Unit {0})

abbrev pub backed : StepAnswer → List ℕ → Back
backed answer memory = leaves answer memory tt

-- on the cells: "Back restores in reverse.", and returns to "the row left"
unfoldable pub taken_back : List ℕ → List ℕ → Position → Outcome ℕ → Back
taken_back cells journal p (Err number) = backed (Err (number, p)) cells
taken_back cells journal p (Ok changes) = backed (Ok (retreated p (last_row journal p) changes)) (undone journal (first_entry p changes) changes cells)

unfoldable pub back_tables : Tables → List ℕ → List ℕ → Position → Back
back_tables t memory journal p =
    with_tail (cell_width * cell_count t.regions) memory
    (λ cells. taken_back cells journal p (back_look t (length memory) journal p))
