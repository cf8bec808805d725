-- Demand 3: what is claimed of every list of calls after an accepted open. To be read without the proofs; Top.antt in proofs/ has the theorem.
-- The quoted sentences are the demand's, where 01 is not named.
use Rattle.std.specs.Prelude.{◌≡◌, true, false, List, [], ◌∷◌, ◌++◌, ℕ, ◌*◌, ◌^◌, ◌<◌, length, get_or, take, drop, Ok}
use Rattle.tables.specs.Refusal.{refusal_number, no_rule}
use Rattle.tables.specs.Tables.{Tables}
use Rattle.tables.specs.Rows.{region_name, instruction_at}
use Rattle.tables.specs.Cells.{cell_count}
use Rattle.tables.specs.declared.rows.Instruction.{Instruction}
use Rattle.access_sets.specs.Set.{has}
use Rattle.journal.specs.Position.{first_position}
use Rattle.journal.specs.Cells.{cell_width, held}
use Rattle.journal.specs.Each.{Each}
use Rattle.operands.specs.Typed.{Typed}
use Rattle.machine.specs.Outcome.{is_call}
use Rattle.session_open.specs.Open.{open_tables}
use Rattle.soundness.specs.WriteSet.{HasCell, write_set}
use Rattle.session.specs.Session.{Session}
use Rattle.sequence.specs.Calls.{Call, forward, back, Answer, number_of, opened, next, answers, end}
use Rattle.sequence.specs.Replay.{Machine, machine_of, State, fresh, cells_at, replay_answers, replay_end}
use Rattle.sequence.specs.Journal.{journal_at, used_entries}

-- ---- what is said of one call

-- 01: "To meet an operand without a rule is to be refused with 18."
abbrev pub Ruled : Answer → Type 0
Ruled a = number_of a ≡ refusal_number no_rule → ⊥

-- no region in the row's write set has the cell
abbrev pub Spared : Tables → Instruction → ℕ → Type 0
Spared t x c = (r : ℕ) → HasCell t.regions r c → has (region_name t.regions r) (write_set t x) ≡ false

-- "a CALL changed only cells of regions in its write set": the others hold what they held. Of a row that is no CALL this says nothing; `memory_is` below says what each row did.
abbrev pub Kept : Tables → Instruction → Session → Session → Type 0
Kept t x s s' = is_call x ≡ true → (c : ℕ) → c < cell_count t.regions → Spared t x c → held s'.memory c ≡ held s.memory c

-- so for each forward of the list, from the session before it to the one after it
abbrev pub Framed : Tables → List Call → Session → Type 0
Framed t [] s = Unit {0}
Framed t (forward reply ∷ cs) s =
    Kept t (instruction_at t.instructions s.position.row) s (next t (forward reply) s) × Framed t cs (next t (forward reply) s)
Framed t (back ∷ cs) s = Framed t cs (next t back s)

-- ---- of a list of calls, on the session that open left of the lent memory and journal

module _ (t : Tables) (memory journal : List ℕ) (calls : List Call) where
  abbrev pub session : Session
  session = opened t memory journal

  abbrev pub ending : Session
  ending = end t calls session

  -- 01's plain machine, "fed the opened tables, memory's and the journal's length and the calls", and the state that it ends in
  abbrev pub machine : Machine
  machine = machine_of t (length memory) (length journal)

  abbrev pub state : State
  state = replay_end machine calls fresh

  pub record Faithful : Type 0 where
    -- "After it every cell has its declared kind.": its word too is of that kind
    pub kinds : Typed t.regions (take (cell_width * cell_count t.regions) ending.memory)
    -- "No call in it met an operand without a rule"
    pub ruled : Each Ruled (answers t calls session)
    -- "and a CALL changed only cells of regions in its write set."
    pub framed : Framed t calls session
    -- "Each call's answer, refusal number and position included, is the one that document 01's plain machine gives for the same list; so forward and back are refused exactly when 01 says."
    pub answers_are : answers t calls session ≡ replay_answers machine calls fresh
    -- "The memory left holds the plain machine's cells, reached from zero by the steps not taken back, with their replies, and past them what open left.": open leaves what was lent
    pub memory_is : ending.memory ≡ cells_at machine state ++ drop (cell_width * cell_count t.regions) memory
    -- The demand has no sentence on the journal. Its used entries are those of the plain machine's steps.
    pub journal_is : used_entries ending ≡ journal_at machine state

-- "Take every list of forward and back calls, refused ones included, made after an accepted open, whatever the extern routines reply." What is left after a call of a list
-- is what the list up to it leaves: every prefix of a list is a list.
-- The premise on words: a lent buffer holds 64-bit words, so each console meets it; lists of numbers do not say it by themselves (DECISIONS S5).
-- "Premises: nobody else writes the lent buffers; the program, every table of it, stays as opened; each call gets the memory and journal that open got and the last position returned.":
-- `answers` and `end` hand each call the tables and what the last one left.
abbrev pub Demand3 : Type 0
Demand3 =
    (t : Tables) (memory journal : List ℕ) → ((i : ℕ) → get_or t.instructions i 0 < 2 ^ 64)
    → (open_tables t memory (length journal)).answer ≡ Ok first_position
    → (calls : List Call) → Faithful t memory journal calls
