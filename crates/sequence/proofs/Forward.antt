-- A forward on a reached session: its answer and what it leaves are the replay machine's, its answer is never 18, and on a CALL it changes only cells of the write set.
-- Assumes nothing.
use Rattle.std.proofs.Common.{Ok, Err}
use Prim.Native.Nat.{ℕ, ◌+◌, ◌*◌, ◌<◌, ◌≤◌}
use mathlib.Core.Bool.{true, false≢true}
use mathlib.Core.Logic.{◌≢◌}
use mathlib.Core.List.{List, ◌∷◌, ◌++◌}
use mathlib.Core.Path.{◌≡◌, refl, sym, ap, ap₂, ◌∙◌}
use native.Mathlib.Numerals.{add-one}
use native.Mathlib.Omega.{arith}
use lib.ListN.{length, take, drop}
use Rattle.sequence.proofs.RefusalLaws.{same_refusal}
use Rattle.tables.specs.declared.refusal.Refusal.{Refusal}
use Rattle.tables.specs.Refusal.{refusal_number, no_rule}
use Rattle.tables.specs.Outcome.{Outcome, ◌>>=◌, ◌>>◌, need}
use Rattle.tables.specs.Rows.{instruction_at}
use Rattle.tables.specs.declared.rows.Instruction.{Instruction}
use Rattle.journal.specs.declared.cells.Write.{Write}
use Rattle.journal.specs.Cells.{held, applied}
use Rattle.journal.specs.Each.{Each}
use Rattle.journal.specs.Entries.{log, closing, journaled}
use Rattle.journal.specs.Position.{advanced}
use Rattle.journal.proofs.CellsLaws.{each_map, held-applied}
use Rattle.journal.proofs.EntriesLaws.{length-journaled, journaled_between}
use Rattle.machine.specs.Outcome.{is_call}
use Rattle.control_flow.specs.Next.{next_row}
use Rattle.session.specs.Prepare.{entries_of}
use Rattle.session.specs.Position.{placed_look}
use Rattle.session.specs.Leaves.{with_tail}
use Rattle.session_forward.specs.Forward as session
use Rattle.session_forward.specs.Forward.{forward_look, Left, left, forward_tables}
use Rattle.soundness.specs.Sound.{GoodWrite}
use Rattle.sequence.specs.Calls.{of_step, number_of}
use Rattle.sequence.specs.Replay.{Machine, State, made, place_after, writes_after, used_after, row_at, cells_at, used_at, position_at, replay_look, replayed, step_answer, next_state}
use Rattle.sequence.specs.Journal.{journal_after, journal_at}
use Rattle.sequence.specs.Claim.{Spared}
use Rattle.sequence.proofs.Looks.{Steps, steps, refused_by_row, same_look}
use Rattle.sequence.proofs.Reached.{length-journal, journal_parted, count, Started, InProgram, Within, typed_after, good-after, cells_taken, past_left, held_among, spent, prepared_at, position-fits}

-- "its reply joins the history"
abbrev pub joined : State → List ℕ → State
joined s reply = record { history = reply ∷ s.history }

abbrev pub joins : State → List ℕ → Outcome (List Write) → Outcome State
joins s reply o = o >>= (λ ws. Ok (joined s reply))

module _ {M : Machine} {past : List ℕ} (started : Started M past) where
  -- ---- the looks

  forward_look_lem : (s : State) (rest reply : List ℕ) → Within M s rest
      → forward_look M.tables (cells_at M s ++ past) (length (journal_at M s ++ rest)) (position_at M s) reply ≡ replay_look M s reply
  unfolding forward_look placed_look ◌>>=◌ ◌>>◌ need
  forward_look_lem s rest reply w =
      rw (prepared_at started w, position-fits started w, cells_taken started s.history, w.size)
      (same_look M started.prepared s reply (omega (arith, spent started w)))

  -- ---- what it leaves, by what the looks gave

  -- the row that a step leads to
  abbrev leads_on : State → List ℕ → ℕ
  leads_on s cells = next_row M.tables.regions M.tables.instructions cells (row_at M s)

  abbrev leaves_at : State → List ℕ → Outcome (List Write) → Left
  leaves_at s rest o = with_tail (2 * count M) (cells_at M s ++ past) (λ cells. session.stepped cells (journal_at M s ++ rest) (position_at M s) (leads_on s cells) o)

  pub record Forwarded (s : State) (rest reply : List ℕ) (o : Outcome (List Write)) : Type 0 where
    pub rest' : List ℕ
    pub leaves_is : leaves_at s rest o
        ≡ left (step_answer M s (joins s reply o)) (cells_at M (next_state s (joins s reply o)) ++ past) (journal_at M (next_state s (joins s reply o)) ++ rest')
    pub within : Within M (next_state s (joins s reply o)) rest'

  module _ (s : State) (rest reply : List ℕ) (w : Within M s rest) (ws : List Write) (e : replay_look M s reply ≡ Ok ws) where
    seen : Steps M started.prepared s reply ws
    seen = steps M started.prepared s reply ws e

    made_is : ws ≡ writes_after M s.history reply
    made_is = sym (ap made seen.outcome_is)

    position_is : advanced (position_at M s) (leads_on s (take (2 * count M) (cells_at M s ++ past))) (length ws) ≡ position_at M (joined s reply)
    unfolding place_after used_after
    position_is = λ i. record {
      row = leads_on s (cells_taken started s.history i);
      done = add-one (length s.history) i;
      used = used_at M s + (length (made_is i) + 1);
    }

    memory_is : applied (take (2 * count M) (cells_at M s ++ past)) ws ++ drop (2 * count M) (cells_at M s ++ past) ≡ cells_at M (joined s reply) ++ past
    unfolding place_after
    memory_is =
        ap₂ (λ (a b : List ℕ). applied a ws ++ b) (cells_taken started s.history) (past_left started s.history)
        ∙ ap (λ (v : List Write). applied (cells_at M s) v ++ past) made_is

    journal_is : journaled (journal_at M s ++ rest) (used_at M s) (row_at M s) (take (2 * count M) (cells_at M s ++ past)) ws
        ≡ journal_at M (joined s reply) ++ drop (3 * (length ws + 1)) rest
    journal_is =
        let fits : 3 * (length ws + 1) ≤ length rest = omega (arith, spent started w, seen.fits) in
        let rest' : List ℕ = drop (3 * (length ws + 1)) rest in
        ap (λ (m : List ℕ). journaled (journal_at M s ++ rest) (used_at M s) (row_at M s) m ws) (cells_taken started s.history)
        ∙ journaled_between (journal_at M s) rest (used_at M s) (row_at M s) (cells_at M s) ws (length-journal M s.history) fits
        ∙ ap (λ (v : List Write). journal_at M s ++ (log (cells_at M s) v ++ (closing (length v) (row_at M s) ++ rest'))) made_is
        ∙ sym (journal_parted M reply s.history rest')

    moved : Forwarded s rest reply (Ok ws)
    unfolding with_tail session.stepped ◌>>=◌
    moved = record {
      rest' = drop (3 * (length ws + 1)) rest;
      leaves_is = λ i. record { answer = Ok (position_is i); memory = memory_is i; journal = journal_is i };
      within = record {
        steps = (seen.row, w.steps);
        size = ap length (sym journal_is) ∙ length-journaled (journal_at M s ++ rest) (used_at M s) (row_at M s) (take (2 * count M) (cells_at M s ++ past)) ws ∙ w.size;
      };
    }

  forwarded_by : (s : State) (rest reply : List ℕ) → Within M s rest → (o : Outcome (List Write)) → replay_look M s reply ≡ o → Forwarded s rest reply o
  unfolding with_tail session.stepped ◌>>=◌
  forwarded_by s rest reply w (Err n) e = record {
    rest' = rest;
    leaves_is = ap₂ (λ (a b : List ℕ). left (Err (n, position_at M s)) (a ++ b) (journal_at M s ++ rest)) (cells_taken started s.history) (past_left started s.history);
    within = w;
  }
  forwarded_by s rest reply w (Ok ws) e = moved s rest reply w ws e

  pub forwarded : (s : State) (rest reply : List ℕ) → Within M s rest → Forwarded s rest reply (replay_look M s reply)
  forwarded s rest reply w = forwarded_by s rest reply w (replay_look M s reply) refl

  pub forward-leaves : (s : State) (rest reply : List ℕ) → Within M s rest
      → forward_tables M.tables (cells_at M s ++ past) (journal_at M s ++ rest) (position_at M s) reply
      ≡ leaves_at s rest (replay_look M s reply)
  unfolding forward_tables
  forward-leaves s rest reply w = ap (leaves_at s rest) (forward_look_lem s rest reply w)

  -- ---- a number that its looks do not give is not its answer

  unanswered_by : (k : Refusal) → (0 ≡ refusal_number k → ⊥) → (s : State) (reply : List ℕ) → (replay_look M s reply ≡ Err k → ⊥) → (o : Outcome (List Write)) → replay_look M s reply ≡ o
      → number_of (of_step (step_answer M s (joins s reply o))) ≡ refusal_number k → ⊥
  unfolding ◌>>=◌
  unanswered_by k some s reply never (Ok ws) e = some
  unanswered_by k some s reply never (Err n) e = λ z. never (e ∙ ap Err (same_refusal z))

  pub forward_unanswered : (k : Refusal) → (0 ≡ refusal_number k → ⊥) → (s : State) (reply : List ℕ) → (replay_look M s reply ≡ Err k → ⊥)
      → number_of (of_step (step_answer M s (joins s reply (replay_look M s reply)))) ≡ refusal_number k → ⊥
  forward_unanswered k some s reply never = unanswered_by k some s reply never (replay_look M s reply) refl

  -- "No call in it met an operand without a rule"
  pub forward-ruled : (s : State) (reply : List ℕ) → InProgram M s.history → replay_look M s reply ≡ Err no_rule → ⊥
  forward-ruled s reply l e =
      let r = refused_by_row M started.prepared s reply no_rule (λ q. cc) (λ ws l o full q. cc) e in
      started.sound.ruled (cells_at M s) (row_at M s) reply (typed_after started s.history l) r.row r.outcome_is

  -- ---- "a CALL changed only cells of regions in its write set"

  module _ (s : State) (reply : List ℕ) (inside : InProgram M s.history) (call : is_call (instruction_at M.tables.instructions (row_at M s)) ≡ true) (c : ℕ) (l : c < count M)
      (spared : Spared M.tables (instruction_at M.tables.instructions (row_at M s)) c) where
    abbrev x : Instruction
    x = instruction_at M.tables.instructions (row_at M s)

    -- a write of the row is not to that cell
    apart : (w : Write) → GoodWrite M.tables x w → c ≢ w.cell
    apart w g same =
        let reached = rw (← same) at (g.allowed call) in
        false≢true (sym (spared reached.region reached.cell) ∙ reached.named)

    kept_by : (o : Outcome (List Write)) → replay_look M s reply ≡ o
        → held (cells_at M (next_state s (joins s reply o)) ++ past) c ≡ held (cells_at M s ++ past) c
    unfolding place_after ◌>>=◌
    kept_by (Err n) e = refl
    kept_by (Ok ws) e =
        let seen = steps M started.prepared s reply ws e in
        held_among started (reply ∷ s.history) c l
        ∙ held-applied (cells_at M s) (writes_after M s.history reply) c (each_map apart (good-after started s.history reply (seen.row, inside)))
        ∙ sym (held_among started s.history c l)

    pub forward_kept : held (cells_at M (next_state s (joins s reply (replay_look M s reply))) ++ past) c ≡ held (cells_at M s ++ past) c
    forward_kept = kept_by (replay_look M s reply) refl
