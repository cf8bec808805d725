-- A back on a reached session: its answer and what it leaves are the replay machine's. Assumes nothing.
use Rattle.std.proofs.Common.{Ok, Err}
use Prim.Native.Nat.{ℕ, suc, ◌+◌, ◌*◌, ◌-◌}
use mathlib.Core.List.{List, [], ◌∷◌, ◌++◌}
use mathlib.Core.Path.{◌≡◌, refl, sym, ap, ap₂, ◌∙◌}
use native.Mathlib.Omega.{arith}
use lib.ListN.{length, take, drop}
use Rattle.tables.specs.Refusal.{nothing_to_take_back}
use Rattle.tables.specs.Outcome.{Outcome, ◌>>=◌, ◌>>◌, need}
use Rattle.journal.specs.declared.cells.Write.{Write}
use Rattle.journal.specs.declared.position.Position.{Position}
use Rattle.journal.specs.Entries.{log, closing}
use Rattle.journal.specs.Position.{retreated}
use Rattle.journal.specs.Restore.{restored, undone}
use Rattle.journal.proofs.RestoreLaws.{restored-olds}
use Rattle.session.specs.Position.{placed_look}
use Rattle.session.specs.Leaves.{with_tail}
use Rattle.session_back.specs.Back.{last_row, first_entry, journal_look, back_look, Back, backed, taken_back, back_tables}
use Rattle.sequence.specs.Calls.{back}
use Rattle.sequence.specs.Replay.{Machine, History, State, place_after, row_after, cells_after, writes_after, used_after, cells_at, position_at, replayed}
use Rattle.sequence.specs.Journal.{steps_after, journal_after, journal_at}
use Rattle.sequence.proofs.Stack.{placed, row_is, journal_look_lem, undone_is}
use Rattle.sequence.proofs.Reached.{olds_after, step_after, length_olds_after, used_is, journal_parted, count, Started, Within, present-after, cells_taken, past_left, prepared_at, position-fits}

abbrev at : History → State
at h = record { history = h }

module _ {M : Machine} {past : List ℕ} (started : Started M past) where
  -- ---- with no step done: 12

  pub none_dropped : replayed M back (at []) ≡ Err nothing_to_take_back
  unfolding replayed ◌>>=◌ ◌>>◌
  none_dropped = rw started.prepared

  pub back_none : (rest : List ℕ) → Within M (at []) rest
      → back_tables M.tables (cells_at M (at []) ++ past) (journal_at M (at []) ++ rest) (position_at M (at []))
      ≡ backed (Err (nothing_to_take_back, position_at M (at []))) (cells_at M (at []) ++ past)
  unfolding back_tables taken_back with_tail back_look placed_look journal_look ◌>>=◌ ◌>>◌ need
  back_none rest w = rw (prepared_at started w, position-fits started w, cells_taken started [], past_left started [])

  -- ---- the last step taken back

  pub last_dropped : (reply : List ℕ) (h : History) → replayed M back (at (reply ∷ h)) ≡ Ok (at h)
  unfolding replayed ◌>>=◌ ◌>>◌
  last_dropped reply h = rw started.prepared

  module _ (reply : List ℕ) (h : History) (rest : List ℕ) (w : Within M (at (reply ∷ h)) rest) where
    -- its old values
    abbrev os : List Write
    os = olds_after M h reply

    abbrev journal : List ℕ
    journal = journal_after M (reply ∷ h) ++ rest

    used_more : used_after M (reply ∷ h) ≡ used_after M h + (length os + 1)
    unfolding used_after
    used_more = ap (λ (n : ℕ). used_after M h + (n + 1)) (sym (length_olds_after M h reply))

    -- its position, by the journal's entries
    placed_is : position_at M (at (reply ∷ h)) ≡ placed (row_after M (reply ∷ h)) (suc (length h)) (steps_after M (reply ∷ h))
    placed_is = λ i. record { row = row_after M (reply ∷ h); done = suc (length h); used = sym (used_is M (reply ∷ h)) i }

    look : journal_look M.tables.instructions (count M) journal (position_at M (at (reply ∷ h))) ≡ Ok (length os)
    unfolding steps_after
    look =
        ap (journal_look M.tables.instructions (count M) journal) placed_is
        ∙ journal_look_lem (step_after M h reply) (steps_after M h) rest M.tables.instructions (count M) (row_after M (reply ∷ h)) (suc (length h)) (omega arith)
        (present-after started h reply w.steps) w.steps.0

    -- the row that it left
    left_is : last_row journal (position_at M (at (reply ∷ h))) ≡ row_after M h
    unfolding steps_after
    left_is = ap (last_row journal) placed_is ∙ row_is (step_after M h reply) (steps_after M h) rest

    back_look_lem : back_look M.tables (length (cells_after M (reply ∷ h) ++ past)) journal (position_at M (at (reply ∷ h))) ≡ Ok (length os)
    unfolding back_look placed_look ◌>>=◌ ◌>>◌ need
    back_look_lem = rw (prepared_at started w, position-fits started w) look

    position_is : retreated (position_at M (at (reply ∷ h))) (last_row journal (position_at M (at (reply ∷ h)))) (length os) ≡ position_at M (at h)
    position_is =
        let d : suc (length h) - 1 ≡ length h = omega arith in
        let u : used_after M (reply ∷ h) - (length os + 1) ≡ used_after M h = omega (arith, used_more) in λ i. record { row = left_is i; done = d i; used = u i }

    undone-all : (m : List ℕ) → undone journal (first_entry (position_at M (at (reply ∷ h))) (length os)) (length os) m ≡ restored m os
    unfolding steps_after
    undone-all m =
        ap (λ (p : Position). undone journal (first_entry p (length os)) (length os) m) placed_is ∙ undone_is (step_after M h reply) (steps_after M h) rest m

    memory_is : undone journal (first_entry (position_at M (at (reply ∷ h))) (length os)) (length os) (take (2 * count M) (cells_after M (reply ∷ h) ++ past))
        ++ drop (2 * count M) (cells_after M (reply ∷ h) ++ past) ≡ cells_after M h ++ past
    unfolding place_after
    memory_is =
        ap₂ (λ (a b : List ℕ). a ++ b)
        (undone-all (take (2 * count M) (cells_after M (reply ∷ h) ++ past))
        ∙ ap (λ (m : List ℕ). restored m os) (cells_taken started (reply ∷ h))
        ∙ restored-olds (cells_after M h) (writes_after M h reply))
        (past_left started (reply ∷ h))

    pub back_last : back_tables M.tables (cells_after M (reply ∷ h) ++ past) journal (position_at M (at (reply ∷ h)))
        ≡ backed (Ok (position_at M (at h))) (cells_after M h ++ past)
    unfolding back_tables taken_back with_tail
    back_last =
        ap (λ (o : Outcome ℕ). with_tail (2 * count M) (cells_after M (reply ∷ h) ++ past) (λ cells. taken_back cells journal (position_at M (at (reply ∷ h))) o)) back_look_lem
        ∙ (λ i. backed (Ok (position_is i)) (memory_is i))

    -- its entries lie past the used part again
    pub back-within : Within M (at h) (log (cells_after M h) (writes_after M h reply) ++ (closing (length (writes_after M h reply)) (row_after M h) ++ rest))
    back-within = record { steps = w.steps.1; size = ap length (sym (journal_parted M reply h rest)) ∙ w.size }
