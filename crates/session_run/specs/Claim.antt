-- 02, P4: what is claimed of every run, whatever it is lent. To be read without the proofs; Top.antt in proofs/ has the theorem. The quoted sentences are 02's and 01's.
use Rattle.std.specs.Prelude.{ℕ, zero, suc, ◌+◌, ◌<◌, ◌≤◌, true, false, List, [], ◌≡◌, Ok, Err}
use Rattle.tables.specs.declared.refusal.Refusal as R
use Rattle.tables.specs.Tables.{Tables}
use Rattle.tables.specs.Rows.{instruction_rows, instruction_at}
use Rattle.journal.specs.declared.position.Position.{Position}
use Rattle.machine.specs.Outcome.{is_call}
use Rattle.session.specs.Answer.{run_position}
use Rattle.session.specs.Session.{Session, after}
use Rattle.session.specs.declared.answer.Stop.{Stop}
use Rattle.session.specs.declared.answer.Stop.TheVariants.{Allowance, End, Call, Refusal}
use Rattle.session_forward.specs.Forward.{Left, forward_tables}
use Rattle.session_run.specs.Run.{Running, run_tables}

-- a forward with no reply from a session
abbrev pub forward_from : Tables → Session → Left
forward_from t s = forward_tables t s.memory s.journal s.position []

-- n forwards, one after the other
unfoldable pub forwards : Tables → ℕ → Session → Session
forwards t zero s = s
forwards t (suc n) s = forwards t n (after (forward_from t s))

-- a forward that moves
pub record Moves (t : Tables) (s : Session) : Type 0 where
  pub position : Position
  pub moved : (forward_from t s).answer ≡ Ok position

-- a session that stands before a CALL
pub record BeforeCall (t : Tables) (s : Session) : Type 0 where
  pub row : s.position.row < instruction_rows t.instructions
  pub call : is_call (instruction_at t.instructions s.position.row) ≡ true

-- a session at a row that is no CALL, which a forward refuses
pub record AtRefusal (t : Tables) (s : Session) (number : R.Refusal) : Type 0 where
  pub row : s.position.row < instruction_rows t.instructions
  pub plain : is_call (instruction_at t.instructions s.position.row) ≡ false
  pub refused : (forward_from t s).answer ≡ Err (number, s.position)

-- "or sooner only at the end, before a CALL or at a refusal, and says which": what each stop says of the allowance, the steps taken and where the run came to.
-- Of one session no two stops say something true: "before each step, come allowance, end, CALL, refusal".
abbrev pub Says : Tables → ℕ → ℕ → Session → Stop → Type 0
Says t allowance steps s Allowance = steps ≡ allowance
Says t allowance steps s End = (steps < allowance) × (instruction_rows t.instructions ≤ s.position.row)
Says t allowance steps s Call = (steps < allowance) × BeforeCall t s
Says t allowance steps s (Refusal number) = (steps < allowance) × AtRefusal t s number

-- of a run with an allowance from session s, which came to session e after so many steps
pub record RunIs (t : Tables) (s : Session) (allowance steps : ℕ) (stop : Stop) (e : Session) : Type 0 where
  -- "every run reports at most its allowance"
  pub at_most : steps ≤ allowance
  -- "and leaves what that many forwards leave": each of them moves
  pub leaves_is : e ≡ forwards t steps s
  pub moves : (k : ℕ) → k < steps → Moves t (forwards t k s)
  -- 01: "counted steps in the answer, equal to the machine's steps"
  pub counted : e.position.done ≡ s.position.done + steps
  pub says : Says t allowance steps e stop
  -- "never stops short at a row that a forward would take, CALL apart"
  pub short : steps < allowance → Moves t e → BeforeCall t e

-- what a run leaves, as a session
abbrev pub ended : Running → Session
ended r = record { memory = r.memory; journal = r.journal; position = run_position r.answer }

module _ (t : Tables) (memory journal : List ℕ) (p : Position) where
  abbrev pub lent : Session
  lent = record { memory = memory; journal = journal; position = p }

  pub record Runs : Type 0 where
    pub ran : (allowance steps : ℕ) (stop : Stop) (p' : Position) → (run_tables t memory journal p allowance).answer ≡ Ok (steps, stop, p')
        → RunIs t lent allowance steps stop (ended (run_tables t memory journal p allowance))
    -- "It makes forward's looks up to 19 first": a run is refused only where a forward is, with its number. "A refusal returns its number .. and the position as given", and writes nothing.
    pub refused : (allowance : ℕ) (number : R.Refusal) (p' : Position) → (run_tables t memory journal p allowance).answer ≡ Err (number, p')
        → (ended (run_tables t memory journal p allowance) ≡ lent) × ((forward_from t lent).answer ≡ Err (number, p))
    -- "and an allowance of 0 changes nothing"
    pub none : ended (run_tables t memory journal p 0) ≡ lent

-- on all input
abbrev pub RunClaim : Type 0
RunClaim = (t : Tables) (memory journal : List ℕ) (p : Position) → Runs t memory journal p
