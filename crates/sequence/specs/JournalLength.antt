-- 02, P2, P4 and P5: what is claimed of a journal's length after an accepted open, and of the entries that a step uses. To be read without the proofs; Top.antt in proofs/ has the theorems.
-- The quoted sentences are 02's.
use Rattle.std.specs.Prelude.{◌≡◌, true, false, List, ℕ, ◌+◌, ◌^◌, ◌<◌, ◌≤◌, length, get_or, Ok}
use Rattle.tables.specs.Refusal.{refusal_number, journal_full}
use Rattle.tables.specs.Tables.{Tables}
use Rattle.tables.specs.Rows.{instruction_rows, instruction_at}
use Rattle.labels.specs.Labels.{is_jump}
use Rattle.journal.specs.declared.position.Position.{Position}
use Rattle.journal.specs.Position.{first_position}
use Rattle.journal.specs.Each.{Each}
use Rattle.operators.specs.Convert.{is_convert}
use Rattle.session.specs.Prepare.{entries_of}
use Rattle.session_open.specs.Open.{open_tables}
use Rattle.session_forward.specs.Forward.{forward_tables}
use Rattle.session_length.specs.Entries.{entries_before, journal_length}
use Rattle.session_length.specs.Length.{length_tables}
use Rattle.sequence.specs.Calls.{Call, Answer, number_of, answers}
use Rattle.sequence.specs.Claim.{session, ending}

-- an answer that is not "refusal 13"
abbrev pub NotFull : Answer → Type 0
NotFull a = number_of a ≡ refusal_number journal_full → ⊥

-- P4: "P2's sum holds without jumps": no row is a JUMP, JUMP-WHEN or JUMP-UNLESS
abbrev pub NoJumps : Tables → Type 0
NoJumps t = (k : ℕ) → k < instruction_rows t.instructions → is_jump (instruction_at t.instructions k) ≡ false

-- of a list of calls, on the session that open left of the lent memory and journal
module _ (t : Tables) (memory journal : List ℕ) (calls : List Call) where
  pub record Enough : Type 0 where
    -- the number that `journal_length` gives for these tables
    pub number : length_tables t ≡ Ok (journal_length t.instructions)
    -- "with a journal of at least that many entries no sequence of forward and back meets refusal 13"
    pub never_full : NoJumps t → journal_length t.instructions ≤ entries_of (length journal) → Each NotFull (answers t calls (session t memory journal calls))
    -- "and the entries in use never exceed the sum": in a journal of any length; of the rows that the position has passed, and so of all
    pub passed : NoJumps t → (ending t memory journal calls).position.used ≤ entries_before t.instructions (ending t memory journal calls).position.row
    pub in_use : NoJumps t → (ending t memory journal calls).position.used ≤ journal_length t.instructions

-- "Proved, after an accepted open and under demand 3's premises": those of `Demand3` in Claim.antt. The entries in use after a call of a list
-- are those after the list up to it: every prefix of a list is a list.
abbrev pub JournalEnough : Type 0
JournalEnough =
    (t : Tables) (memory journal : List ℕ) → ((i : ℕ) → get_or t.instructions i 0 < 2 ^ 64)
    → (open_tables t memory (length journal)).answer ≡ Ok first_position
    → (calls : List Call) → Enough t memory journal calls

-- P4: "with them each step uses at most 65 entries": every forward that moves, whatever it is lent
abbrev pub StepEntries : Type 0
StepEntries =
    (t : Tables) (memory journal : List ℕ) (p p' : Position) (reply : List ℕ)
    → (forward_tables t memory journal p reply).answer ≡ Ok p' → p'.used ≤ p.used + 65

-- P5: "Each is one change in the sequence theorem": a forward over a CONVERT that moves uses two entries, its change's and the closing one
abbrev pub ConvertEntries : Type 0
ConvertEntries =
    (t : Tables) (memory journal : List ℕ) (p p' : Position) (reply : List ℕ) → is_convert (instruction_at t.instructions p.row) ≡ true
    → (forward_tables t memory journal p reply).answer ≡ Ok p' → p'.used ≡ p.used + 2
