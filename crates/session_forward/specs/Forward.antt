-- 01, Order: "Forward: 1, 2, 3, 10, 4, 19, 11, 9; a call: 6, 7, 8 (number only), 14 over scalar references, 17, 13; else 17, 18 names, .., 13."; 02, P4: 20 after 9.
use Rattle.session.specs.Answer.{StepAnswer}
use Rattle.std.specs.Prelude.{ℕ, ◌*◌, List, length, take, ltb, Ok, Err}
use Rattle.tables.specs.Refusal.{at_end}
use Rattle.tables.specs.Outcome.{Outcome, ◌>>=◌, ◌>>◌, need}
use Rattle.tables.specs.Tables.{Tables}
use Rattle.tables.specs.Rows.{instruction_rows}
use Rattle.tables.specs.Cells.{cell_count}
use Rattle.journal.specs.declared.cells.Write.{Write}
use Rattle.journal.specs.declared.position.Position.{Position}
use Rattle.journal.specs.Position.{advanced}
use Rattle.journal.specs.Cells.{cell_width, applied}
use Rattle.journal.specs.Entries.{journaled}
use Rattle.machine.specs.Outcome.{outcome_at}
use Rattle.control_flow.specs.Next.{next_row}
use Rattle.session.specs.Prepare.{entries_of}
use Rattle.session.specs.Position.{placed_look, room_for}
use Rattle.session.specs.Leaves.{Leaves, leaves, with_tail}

-- ---- the looks

-- 11, the row's looks (`outcome_at`: 9, 20, then a CALL's or any other row's), 13
unfoldable pub step_look : Tables → List ℕ → ℕ → Position → List ℕ → Outcome (List Write)
step_look t cells entries p reply = do
  need (ltb p.row (instruction_rows t.instructions)) at_end
  ws ← outcome_at t cells p.row reply
  room_for entries p ws

-- all of them; the journal's length in words
unfoldable pub forward_look : Tables → List ℕ → ℕ → Position → List ℕ → Outcome (List Write)
forward_look t memory journal p reply = do
  n ← placed_look t (length memory) journal p
  step_look t (take (cell_width * n) memory) (entries_of journal) p reply

-- ---- what forward leaves

abbrev pub Left : Type 0
Left = Leaves StepAnswer (List ℕ)

abbrev pub left : StepAnswer → List ℕ → List ℕ → Left
left = leaves

-- on the cells: "A refusal returns its number .. and the position as given", and writes nothing
-- A step with these writes leads to row `next` (control_flow/specs/Next.antt).
unfoldable pub stepped : List ℕ → List ℕ → Position → ℕ → Outcome (List Write) → Left
stepped cells journal p next (Err number) = left (Err (number, p)) cells journal
stepped cells journal p next (Ok ws) = left (Ok (advanced p next (length ws))) (applied cells ws) (journaled journal p.used p.row cells ws)

unfoldable pub forward_tables : Tables → List ℕ → List ℕ → Position → List ℕ → Left
forward_tables t memory journal p reply =
    with_tail (cell_width * cell_count t.regions) memory
    (λ cells. stepped cells journal p (next_row t.regions t.instructions cells p.row) (forward_look t memory (length journal) p reply))
