-- A journal of the length that is counted is never full where no row is a jump: of the replay machine's steps each uses no more entries than are counted for its row, and no row
-- is come to twice. Assumes nothing.
use Rattle.std.proofs.Common.{Ok, Err}
use Prim.Native.Nat.{ℕ, ◌+◌, ◌<◌, ◌≤◌}
use mathlib.Core.Bool.{false≢true}
use mathlib.Core.List.{List, [], ◌∷◌}
use mathlib.Core.Path.{◌≡◌, refl, sym, ap, ◌∙◌, subst}
use native.Mathlib.Omega.{arith}
use lib.ListN.{length}
use borrow.Author.Tests.{le-leb}
use Rattle.tables.specs.Cases.{case_of}
use Rattle.tables.specs.Family as family
use Rattle.tables.specs.Refusal.{journal_full}
use Rattle.tables.specs.Outcome.{Outcome}
use Rattle.tables.specs.Tables.{Tables}
use Rattle.tables.specs.Rows.{instruction_at}
use Rattle.tables.proofs.Cases.{by_key, past_keys}
use Rattle.journal.specs.declared.cells.Write.{Write}
use Rattle.journal.specs.Each.{Each}
use Rattle.machine.specs.Outcome.{outcome_at}
use Rattle.machine.proofs.WritesLaws.{changes}
use Rattle.control_flow.proofs.NextLaws.{next_past}
use Rattle.call_reply.specs.Call.{reply_limit}
use Rattle.operands.specs.Reach.{Laid}
use Rattle.session.specs.Prepare.{entries_of}
use Rattle.session_length.specs.Entries.{entries_by_family, entries_for, entries_before, journal_length}
use Rattle.session_length.specs.Length.{length_answer, length_tables}
use Rattle.session_length.proofs.EntriesLaws.{entries_next, entries_mono}
use Rattle.soundness.specs.Sound.{Sound}
use Rattle.soundness.proofs.Counts.{most_changes, outcome_most}
use Rattle.session.specs.Session.{Session}
use Rattle.sequence.specs.Calls.{Call}
use Rattle.sequence.specs.Replay.{Machine, History, State, fresh, made, place_after, row_after, cells_after, writes_after, used_after, row_at, cells_at, used_at, replay_look}
use Rattle.sequence.specs.JournalLength.{NotFull, NoJumps, Enough}
use Rattle.sequence.proofs.Opened.{Accepts}
use Rattle.sequence.proofs.Looks.{refused_by_row}
use Rattle.sequence.proofs.Reached.{rows, InProgram, row_within, Started, typed_after}
use Rattle.sequence.proofs.Sequence.{none_answers, machine, past, started, begins, state, same, ended, within}

-- the most changes of a family, and its closing entry, are counted
most_counted : (f : ℕ) → most_changes f + 1 ≤ entries_for f
unfolding most_changes entries_for case_of
most_counted f =
    by_key (λ k. most_changes k + 1 ≤ entries_for k)
    (
    (family.arithmetic, omega arith)
    ∷ (family.comparison, omega arith)
    ∷ (family.binary_logic, omega arith)
    ∷ (family.unary, omega arith)
    ∷ (family.move, omega arith)
    ∷ (family.exchange, omega arith)
    ∷ (family.load, omega arith)
    ∷ (family.store, omega arith)
    ∷ (family.frame, omega arith)
    ∷ (family.call, omega arith)
    ∷ (family.other, omega arith)
    ∷ (family.convert, omega arith)
    ∷ []
    )
    f
    (λ past. rw (past_keys past ((family.call, reply_limit) ∷ changes) 0 refl, past_keys past entries_by_family 2 refl) (omega arith))

module _ (M : Machine) (laid : Laid M.tables.regions) where
  abbrev instructions : List ℕ
  instructions = M.tables.instructions

  -- ---- what a step uses

  row-counted : (cells : List ℕ) (row : ℕ) (reply : List ℕ) {ws : List Write} → outcome_at M.tables cells row reply ≡ Ok ws
      → length ws + 1 ≤ entries_for (instruction_at instructions row).family
  unfolding outcome_at
  row-counted cells row reply e =
      let x = instruction_at instructions row in
      omega (arith, outcome_most M.tables x reply laid cells e, most_counted x.family)

  step-counted : (h : History) (reply : List ℕ) → length (writes_after M h reply) + 1 ≤ entries_for (instruction_at instructions (row_after M h)).family
  step-counted h reply = at (outcome_at M.tables (cells_after M h) (row_after M h) reply) refl
    where
      at : (o : Outcome (List Write)) → outcome_at M.tables (cells_after M h) (row_after M h) reply ≡ o
          → length (made o) + 1 ≤ entries_for (instruction_at instructions (row_after M h)).family
      at (Ok ws) e = row-counted (cells_after M h) (row_after M h) reply e
      at (Err n) e = omega (arith, most_counted (instruction_at instructions (row_after M h)).family)

  -- ---- the entries in use, by the rows passed: the one law that leans on each step leading past its row

  pub used-passed : NoJumps M.tables → (h : History) → InProgram M h → used_after M h ≤ entries_before instructions (row_after M h)
  unfolding place_after used_after
  used-passed straight [] l = omega arith
  used-passed straight (reply ∷ h) l =
      let past = next_past M.tables.regions instructions (cells_after M h) (row_after M h) l.0 (straight (row_after M h) l.0) in
      omega (
        arith,
        used-passed straight h l.1,
        step-counted h reply,
        entries_next instructions (row_after M h),
        entries_mono instructions (row_after M h + 1) (row_after M (reply ∷ h)) past,
      )

  pub used_most : NoJumps M.tables → (h : History) → InProgram M h → used_after M h ≤ journal_length instructions
  unfolding journal_length
  used_most straight h l = omega (arith, used-passed straight h l, entries_mono instructions (row_after M h) (rows M) (row_within M h l))

  -- ---- 13

  module _ (straight : NoJumps M.tables) (enough : journal_length instructions ≤ entries_of M.journal_words) (s : State) (reply : List ℕ) where
    room : InProgram M s.history → (ws : List Write) → row_at M s < rows M → outcome_at M.tables (cells_at M s) (row_at M s) reply ≡ Ok ws
        → used_at M s + (length ws + 1) ≤ entries_of M.journal_words
    unfolding journal_length
    room inside ws l e =
        omega (
          arith,
          used-passed straight s.history inside,
          row-counted (cells_at M s) (row_at M s) reply e,
          entries_next instructions (row_at M s),
          entries_mono instructions (row_at M s + 1) (rows M) (omega arith),
          enough,
        )

    -- no row is refused with it, and there is room for what one writes
    never_full : {past : List ℕ} → Started M past → InProgram M s.history → replay_look M s reply ≡ Err journal_full → ⊥
    never_full started l e =
        let r = refused_by_row M started.prepared s reply journal_full (λ q. cc)
        (λ ws h o full z. false≢true (sym full ∙ le-leb (used_at M s + (length ws + 1)) (entries_of M.journal_words) (room l ws h o))) e in
        started.sound.journal_apart (cells_at M s) (row_at M s) reply (typed_after started s.history l) r.row r.outcome_is

-- ---- after an accepted open

module _ (t : Tables) (sound : Sound t) (memory journal : List ℕ) (a : Accepts t memory (length journal)) (calls : List Call) where
  abbrev M : Machine
  M = machine t sound memory journal a

  abbrev h : History
  h = (state t sound memory journal a calls).history

  begun : Started M (past t sound memory journal a)
  begun = started t sound memory journal a

  laid : Laid t.regions
  laid = record { few = a.facts.few }

  pub enough : Enough t memory journal calls
  unfolding length_tables
  enough = record {
    number = ap (length_answer t.instructions) a.verdict;
    never_full = λ straight long.
        subst (Each NotFull) (sym (same t sound memory journal a calls))
        (none_answers begun journal_full (omega arith) (λ q. cc) (λ s reply. never_full M laid straight long s reply begun) calls fresh journal (begins t sound memory journal a));
    passed = λ straight.
        subst (λ (z : Session). z.position.used ≤ entries_before t.instructions z.position.row) (sym (ended t sound memory journal a calls))
        (used-passed M laid straight h (within t sound memory journal a calls).steps);
    in_use = λ straight.
        subst (λ (z : Session). z.position.used ≤ journal_length t.instructions) (sym (ended t sound memory journal a calls))
        (used_most M laid straight h (within t sound memory journal a calls).steps);
  }
