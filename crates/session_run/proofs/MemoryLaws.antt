-- Run in a memory whose first words are the cells. Assumes nothing.
use Rattle.std.proofs.Common.{ℕ, zero, suc, ◌+◌, ◌*◌, Bool, true, false, cond, List, [], ◌++◌, ◌≡◌, refl, sym, ap, ap₂, ◌∙◌, length, take, drop, length-append, take-append-drop, leb, Ok, Err}
use lib.Seq.{length-take-le, take_at, drop_at}
use Rattle.tables.specs.declared.refusal.Refusal.{Refusal}
use Rattle.tables.specs.Refusal.{foreign_position}
use Rattle.tables.specs.Outcome.{Outcome, ◌>>=◌, ◌>>◌, need}
use Rattle.tables.specs.Tables.{Tables}
use Rattle.tables.specs.Rows.{instruction_rows, instruction_at}
use Rattle.journal.specs.declared.cells.Write.{Write}
use Rattle.journal.specs.declared.position.Position.{Position}
use Rattle.journal.specs.Cells.{cell_width}
use Rattle.journal.proofs.CellsLaws.{length-applied}
use Rattle.journal.proofs.EntriesLaws.{length-journaled}
use Rattle.machine.specs.Outcome.{is_call}
use Rattle.control_flow.specs.Next.{next_row}
use Rattle.session.specs.Answer.{StepAnswer, RunAnswer}
use Rattle.session.specs.Prepare.{entries_of, prepared_of}
use Rattle.session.specs.Position.{position_fits, placed_look}
use Rattle.session.specs.Leaves.{extended}
use Rattle.session.specs.declared.answer.Stop.TheVariants.{Allowance, End, Call}
use Rattle.session.proofs.Prepared.{prepared}
use Rattle.session_forward.specs.Forward.{Left, stepped}
use Rattle.session_forward.specs.Step.{row_look}
use Rattle.session_forward.proofs.StepLaws.{forward_on}
use Rattle.session_run.specs.Run.{Running, running, stopped, onward, turn, run_by, forward_step, unless_refused, run_tables}
use Rattle.session_run.specs.Turn.{cell_step, run_cells}

-- ---- a step keeps the lengths

pub record Lengths (cells entries : List ℕ) (l : Left) : Type 0 where
  pub memory : length l.memory ≡ length cells
  pub journal : length l.journal ≡ length entries

stepped_lengths : (cells journal : List ℕ) (p : Position) (next : ℕ) (o : Outcome (List Write)) → Lengths cells journal (stepped cells journal p next o)
unfolding stepped
stepped_lengths cells journal p next (Err number) = record { memory = refl; journal = refl }
stepped_lengths cells journal p next (Ok ws) = record { memory = length-applied cells ws; journal = length-journaled journal p.used p.row cells ws }

-- ---- with n cells

module _ (t : Tables) (n : ℕ) where
  abbrev w : ℕ
  w = cell_width * n

  abbrev instructions : List ℕ
  instructions = t.instructions

  -- the looks behind which run stands; they look at lengths alone
  abbrev Prepares : List ℕ → List ℕ → Type 0
  Prepares memory journal = prepared_of t (length memory) (length journal) ≡ Ok n

  step_extends : (memory journal : List ℕ) (p : Position) → Prepares memory journal
      → forward_step t memory journal p ≡ extended (cell_step t (take w memory) journal p) (drop w memory)
  step_extends memory journal p e = sym (forward_on t memory journal p [] e refl)

  whole : (memory : List ℕ) → take w memory ++ drop w memory ≡ memory
  whole memory = take-append-drop w memory

  abbrev Extends : ℕ → ℕ → List ℕ → List ℕ → Position → Type 0
  Extends allowance taken memory journal p =
      run_by (forward_step t) instructions allowance taken memory journal p
      ≡ extended (run_by (cell_step t) instructions allowance taken (take w memory) journal p) (drop w memory)

  module _ (left taken : ℕ) (more : (memory journal : List ℕ) (p : Position) → Prepares memory journal → Extends left (taken + 1) memory journal p)
      (memory journal : List ℕ) (p : Position) (e : Prepares memory journal) where
    abbrev l : Left
    l = cell_step t (take w memory) journal p

    abbrev past : List ℕ
    past = drop w memory

    kept : Lengths (take w memory) journal l
    kept = stepped_lengths (take w memory) journal p (next_row t.regions instructions (take w memory) p.row) (row_look t (take w memory) (entries_of (length journal)) p [])

    wide : length l.memory ≡ w
    wide = kept.memory ∙ length-take-le w memory (prepared t (length memory) (length journal) e).room

    long : length (l.memory ++ past) ≡ length memory
    long =
        length-append l.memory past ∙ ap (λ (k : ℕ). k + length past) kept.memory ∙ sym (length-append (take w memory) past) ∙ ap length (whole memory)

    again : Prepares (l.memory ++ past) l.journal
    again = ap₂ (prepared_of t) long kept.journal ∙ e

    goes_on : (a : StepAnswer) → onward (run_by (forward_step t) instructions left (taken + 1)) taken (l.memory ++ past) l.journal a
        ≡ extended (onward (run_by (cell_step t) instructions left (taken + 1)) taken l.memory l.journal a) past
    goes_on (Ok q) =
        more (l.memory ++ past) l.journal q again
        ∙ ap₂ (λ (cells rest : List ℕ). extended (run_by (cell_step t) instructions left (taken + 1) cells l.journal q) rest)
        (take_at l.memory past w wide) (drop_at l.memory past w wide)
    goes_on (Err (number, q)) = refl

    turn_extends : turn (forward_step t) instructions (run_by (forward_step t) instructions left (taken + 1)) taken memory journal p
        ≡ extended (turn (cell_step t) instructions (run_by (cell_step t) instructions left (taken + 1)) taken (take w memory) journal p) past
    unfolding turn
    turn_extends = at (leb (instruction_rows instructions) p.row) (is_call (instruction_at instructions p.row))
      where
        at : (a b : Bool)
            → cond a (stopped taken End p memory journal)
            (cond b (stopped taken Call p memory journal)
            (onward (run_by (forward_step t) instructions left (taken + 1)) taken (forward_step t memory journal p).memory (forward_step t memory journal p).journal (forward_step t memory journal p).answer))
            ≡ extended
            (cond a (stopped taken End p (take w memory) journal)
            (cond b (stopped taken Call p (take w memory) journal)
            (onward (run_by (cell_step t) instructions left (taken + 1)) taken l.memory l.journal l.answer))) past
        at true b = ap (λ (m : List ℕ). stopped taken End p m journal) (sym (whole memory))
        at false true = ap (λ (m : List ℕ). stopped taken Call p m journal) (sym (whole memory))
        at false false =
            ap (λ (k : Left). onward (run_by (forward_step t) instructions left (taken + 1)) taken k.memory k.journal k.answer) (step_extends memory journal p e)
            ∙ goes_on l.answer

  pub run_extends : (allowance taken : ℕ) (memory journal : List ℕ) (p : Position) → Prepares memory journal → Extends allowance taken memory journal p
  unfolding run_by
  run_extends zero taken memory journal p e = ap (λ (m : List ℕ). stopped taken Allowance p m journal) (sym (whole memory))
  run_extends (suc left) taken memory journal p e = turn_extends left taken (λ m j q d. run_extends left (taken + 1) m j q d) memory journal p e

-- ---- the call

module _ (t : Tables) (memory journal : List ℕ) (p : Position) (allowance : ℕ) where
  -- 1, 2, 3, 10 or 4
  pub run_unprepared : {number : Refusal} → prepared_of t (length memory) (length journal) ≡ Err number → running (Err (number, p)) memory journal ≡ run_tables t memory journal p allowance
  unfolding run_tables placed_look ◌>>=◌
  run_unprepared e = rw e

  -- behind them, with n cells
  pub run_on : {n : ℕ} → prepared_of t (length memory) (length journal) ≡ Ok n → {a : RunAnswer} {cells journal' : List ℕ}
      → running a cells journal' ≡ run_cells t (take (cell_width * n) memory) journal p allowance
      → running a (cells ++ drop (cell_width * n) memory) journal' ≡ run_tables t memory journal p allowance
  unfolding run_tables run_cells placed_look ◌>>=◌ ◌>>◌ need
  run_on {n} e h = rw e (ap (λ (r : Running). extended r (drop (cell_width * n) memory)) h ∙ at (position_fits t.instructions (entries_of (length journal)) p))
    where
      at : (b : Bool)
          → extended (unless_refused (need b foreign_position) p (take (cell_width * n) memory) journal (run_by (cell_step t) t.instructions allowance 0 (take (cell_width * n) memory) journal p)) (drop (cell_width * n) memory)
          ≡ unless_refused (need b foreign_position >> Ok n) p memory journal (run_by (forward_step t) t.instructions allowance 0 memory journal p)
      at true = sym (run_extends t n allowance 0 memory journal p e)
      at false = ap (λ (m : List ℕ). running (Err (foreign_position, p)) m journal) (take-append-drop (cell_width * n) memory)
