-- Run's turns, as its function takes them. Assumes nothing.
use Rattle.std.proofs.Common.{ℕ, ◌+◌, ◌-◌, ◌<◌, ◌≤◌, true, false, List, ◌≡◌, ap, ◌∙◌, arith, length}
use borrow.Author.Tests.{le-leb, lt-leb}
use Rattle.tables.specs.Rows.{instruction_rows, instruction_at}
use Rattle.tables.proofs.FirstLaws.{left_suc}
use Rattle.journal.specs.declared.position.Position.{Position}
use Rattle.machine.specs.Outcome.{is_call}
use Rattle.session.specs.Answer.{StepAnswer}
use Rattle.session.specs.declared.answer.Stop.TheVariants.{Allowance, End, Call}
use Rattle.session_forward.specs.Forward.{Left, left}
use Rattle.session_forward.specs.Step.{Steppable}
use Rattle.session_run.specs.Run.{Step, Rest, stopped, onward, turn, run_by}

-- what a step asks for depends on lengths alone
pub steppable_kept : {regions externs parameters arguments instructions cells cells' : List ℕ} {journal journal' : ℕ}
    → Steppable regions externs parameters arguments instructions cells journal → length cells' ≡ length cells → journal' ≡ journal
    → Steppable regions externs parameters arguments instructions cells' journal'
steppable_kept s ec ej = record {
  layout = record { laid = s.layout.laid; wide = ec ∙ s.layout.wide };
  rows = s.rows;
  form = s.form;
  call = s.call;
  short = rw ej s.short;
}

module _ (step : Step) (instructions : List ℕ) (memory journal : List ℕ) (p : Position) where
  -- ---- one turn

  module _ (rest : Rest) (taken : ℕ) where
    pub turn_end : instruction_rows instructions ≤ p.row → stopped taken End p memory journal ≡ turn step instructions rest taken memory journal p
    unfolding turn
    turn_end h = rw (le-leb (instruction_rows instructions) p.row h)

    pub turn-call : p.row < instruction_rows instructions → is_call (instruction_at instructions p.row) ≡ true
        → stopped taken Call p memory journal ≡ turn step instructions rest taken memory journal p
    unfolding turn
    turn-call h e = rw (lt-leb (instruction_rows instructions) p.row h, e)

    pub turn_step : {a : StepAnswer} {memory' journal' : List ℕ} → p.row < instruction_rows instructions → is_call (instruction_at instructions p.row) ≡ false
        → left a memory' journal' ≡ step memory journal p → onward rest taken memory' journal' a ≡ turn step instructions rest taken memory journal p
    unfolding turn
    turn_step h e s =
        rw (lt-leb (instruction_rows instructions) p.row h, e) (ap (λ (l : Left). onward rest taken l.memory l.journal l.answer) s)

  -- ---- the loop

  pub run-turn : (allowance taken : ℕ) → taken < allowance
      → run_by step instructions (allowance - taken) taken memory journal p ≡ turn step instructions (run_by step instructions (allowance - (taken + 1)) (taken + 1)) taken memory journal p
  unfolding run_by
  run-turn allowance taken h = rw (left_suc allowance taken h)

  pub run_end : (allowance taken : ℕ) → allowance ≤ taken → stopped taken Allowance p memory journal ≡ run_by step instructions (allowance - taken) taken memory journal p
  unfolding run_by
  run_end allowance taken h = let e : allowance - taken ≡ 0 = omega arith in rw e

  pub run-start : (allowance : ℕ) → run_by step instructions (allowance - 0) 0 memory journal p ≡ run_by step instructions allowance 0 memory journal p
  run-start allowance = let e : allowance - 0 ≡ allowance = omega arith in rw e
