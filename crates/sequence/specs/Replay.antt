-- 01's plain machine, a replay machine: its state is a history of replies, from which it works its cells and its position out anew.
use Rattle.session.specs.Answer.{StepAnswer}
use Rattle.std.specs.Prelude.{List, [], ◌∷◌, ℕ, ◌+◌, length, ltb, leb, Ok, Err}
use Rattle.tables.specs.Refusal.{at_end, nothing_to_take_back, journal_full}
use Rattle.tables.specs.Outcome.{Outcome, ◌>>=◌, ◌>>◌, need}
use Rattle.tables.specs.Tables.{Tables}
use Rattle.tables.specs.Rows.{instruction_rows}
use Rattle.journal.specs.declared.cells.Write.{Write}
use Rattle.journal.specs.declared.position.Position.{Position}
use Rattle.journal.specs.Cells.{applied}
use Rattle.operands.specs.Kinds.{zeros}
use Rattle.machine.specs.Outcome.{outcome_at}
use Rattle.control_flow.specs.Next.{next_row}
use Rattle.session.specs.Prepare.{entries_of, prepared_of}
use Rattle.sequence.specs.Calls.{Call, forward, back, Answer, of_step}

-- ---- what it is fed

-- "Demand 3's plain machine is fed the opened tables, memory's and the journal's length and the calls, each forward with its reply; no answer or position."
-- The lengths are in words. The cells that it starts from are any of the declared kinds; demand 3 has zeros.
pub record Machine : Type 0 where
  pub tables : Tables
  pub memory_words : ℕ
  pub journal_words : ℕ
  pub start_cells : List ℕ

-- demand 3's: "reached from zero"
abbrev pub machine_of : Tables → ℕ → ℕ → Machine
machine_of t memory_words journal_words = record { tables = t; memory_words = memory_words; journal_words = journal_words; start_cells = zeros t.regions }

-- ---- its state

-- the replies of the steps not taken back, the last one first
abbrev pub History : Type 0
History = List (List ℕ)

-- "Its state is a history of replies, empty after open."
pub record State : Type 0 where
  pub history : History

abbrev pub fresh : State
fresh = record { history = [] }

-- where a history has come to
pub record Place : Type 0 where
  pub cells : List ℕ
  pub row : ℕ

-- a step's writes. A reply joins the history only where its step is not refused, so the second line is never reached.
abbrev pub made : Outcome (List Write) → List Write
made (Ok ws) = ws
made (Err number) = []

-- "Back drops the last reply; with none it is 12."
abbrev pub dropped : History → Outcome History
dropped [] = Err nothing_to_take_back
dropped (reply ∷ h) = Ok h

-- "that number is the answer, the history kept"
abbrev pub next_state : State → Outcome State → State
next_state s (Ok s') = s'
next_state s (Err number) = s

module _ (M : Machine) where
  -- ---- after the steps of a history

  -- "Its cells: zero with declared kinds, then row 0 done as above with the first reply, row 1 with the second, and so on."; 02, P4: "the current row; in the machine's replay
  -- it is 0, then wherever each step leads".
  -- "Done as above" is `outcome_at`, which forward takes too, as it takes `next_row`: an error in these definitions is one that the theorem cannot see. Reading, cases and the
  -- comparison look for it.
  unfoldable pub place_after : History → Place
  place_after [] = record { cells = M.start_cells; row = 0 }
  place_after (reply ∷ h) =
      let p = place_after h in
      record {
        cells = applied p.cells (made (outcome_at M.tables p.cells p.row reply));
        row = next_row M.tables.regions M.tables.instructions p.cells p.row;
      }

  abbrev pub cells_after : History → List ℕ
  cells_after h = (place_after h).cells

  abbrev pub row_after : History → ℕ
  row_after h = (place_after h).row

  -- the writes of the step that a reply adds to a history
  abbrev pub writes_after : History → List ℕ → List Write
  writes_after h reply = made (outcome_at M.tables (cells_after h) (row_after h) reply)

  -- "journal changes plus 1 added up over its steps"
  unfoldable pub used_after : History → ℕ
  used_after [] = 0
  used_after (reply ∷ h) = used_after h + (length (writes_after h reply) + 1)

  -- ---- at a state

  abbrev pub row_at : State → ℕ
  row_at s = row_after s.history

  abbrev pub cells_at : State → List ℕ
  cells_at s = cells_after s.history

  abbrev pub used_at : State → ℕ
  used_at s = used_after s.history

  -- "Its position: the history's length, and journal changes plus 1 added up over its steps."; 02, P4: it "gain[s] the current row"
  abbrev pub position_at : State → Position
  position_at s = record { row = row_at s; done = length s.history; used = used_at s }

  -- ---- the calls

  -- 01, Order: "1, 2, 3, 10, 4", with which forward and back begin; of the tables and the two lengths. 19 is of a position that is given, and the machine is given none.
  abbrev pub looks_first : Outcome ℕ
  looks_first = prepared_of M.tables M.memory_words M.journal_words

  -- "A forward takes the next row and the looks below on these cells", by 02, P4, "that row", the current one: after those, 11, the row's, and "13 journal full, exactly when changes plus 1 exceed entries left".
  unfoldable pub replay_look : State → List ℕ → Outcome (List Write)
  replay_look s reply = do
    looks_first
    need (ltb (row_at s) (instruction_rows M.tables.instructions)) at_end
    ws ← outcome_at M.tables (cells_at s) (row_at s) reply
    need (leb (used_at s + (length ws + 1)) (entries_of M.journal_words)) journal_full
    Ok ws

  -- the state that a call leads to, or its refusal
  unfoldable pub replayed : Call → State → Outcome State
  replayed (forward reply) s = do
    ws ← replay_look s reply
    Ok (record { history = reply ∷ s.history })
  replayed back s = do
    looks_first
    h ← dropped s.history
    Ok (record { history = h })

  -- "If none refuses, its reply joins the history; else that number is the answer, the history kept." "Every answer gives the position."
  abbrev pub step_answer : State → Outcome State → StepAnswer
  step_answer s (Ok s') = Ok (position_at s')
  step_answer s (Err number) = Err (number, position_at s)

  abbrev pub replay_answer : Call → State → Answer
  replay_answer c s = of_step (step_answer s (replayed c s))

  abbrev pub replay_next : Call → State → State
  replay_next c s = next_state s (replayed c s)

  -- ---- a list of calls

  unfoldable pub replay_answers : List Call → State → List Answer
  replay_answers [] s = []
  replay_answers (c ∷ cs) s = replay_answer c s ∷ replay_answers cs (replay_next c s)

  unfoldable pub replay_end : List Call → State → State
  replay_end [] s = s
  replay_end (c ∷ cs) s = replay_end cs (replay_next c s)
