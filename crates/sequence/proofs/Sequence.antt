-- The sequence theorem. The crate's main law is `agrees`: from start cells of the declared kinds every list of calls on the lent buffers does what the replay machine does.
-- `faithful` says it after an accepted open. Of the step they use the record `Sound` alone, which they are handed. No axioms.
use Rattle.std.proofs.Common.{Ok, Err}
use Prim.Native.Nat.{ℕ, ◌+◌, ◌*◌}
use mathlib.Core.List.{List, [], ◌∷◌, ◌++◌}
use mathlib.Core.Path.{◌≡◌, refl, sym, ap, ap₂, ◌∙◌, subst}
use native.Mathlib.Omega.{arith}
use lib.ListN.{length, take, drop, length-drop}
use lib.Seq.{take_at}
use Rattle.sequence.proofs.RefusalLaws.{same_refusal}
use Rattle.tables.specs.declared.refusal.Refusal.{Refusal}
use Rattle.tables.specs.Refusal.{refusal_number, nothing_to_take_back, no_rule}
use Rattle.tables.specs.Outcome.{Outcome, ◌>>=◌}
use Rattle.tables.specs.Tables.{Tables}
use Rattle.tables.specs.Cells.{cell_count}
use Rattle.journal.specs.Cells.{held}
use Rattle.journal.specs.Each.{Each, none, also}
use Rattle.journal.specs.Entries.{log, closing}
use Rattle.journal.specs.Position.{first_position}
use Rattle.session.specs.Leaves.{leaves}
use Rattle.session_forward.specs.Forward.{Left}
use Rattle.session_back.specs.Back.{Back}
use Rattle.operands.specs.Typed.{Typed}
use Rattle.soundness.specs.Sound.{Sound}
use Rattle.session.specs.Session.{Session}
use Rattle.sequence.specs.Calls.{Call, forward, back, Answer, of_step, number_of, position_of, opened, Called, called, after, next, answers, end}
use Rattle.sequence.specs.Replay.{Machine, machine_of, History, State, fresh, place_after, row_after, cells_after, writes_after, used_after, cells_at, used_at, position_at, replay_look, replayed, step_answer, next_state, replay_answer, replay_next, replay_answers, replay_end}
use Rattle.sequence.specs.Journal.{stacked, steps_after, journal_after, journal_at, used_entries}
use Rattle.sequence.specs.Claim.{Ruled, Framed, Faithful}
use Rattle.sequence.proofs.Opened.{Accepts}
use Rattle.sequence.proofs.Reached.{length-journal, journal_parted, Started, session_at, InProgram, Within, typed_after, cells_taken}
use Rattle.sequence.proofs.Forward.{forwarded, forward-leaves, forward_unanswered, forward-ruled, forward_kept}
use Rattle.sequence.proofs.Back.{none_dropped, back_none, last_dropped, back_last, back-within}

module _ {M : Machine} {past : List ℕ} (started : Started M past) where
  -- ---- one call

  -- on a reached session it answers and leaves what the replay machine says, whose call leads to o
  record Follows (c : Call) (s : State) (rest : List ℕ) (o : Outcome State) : Type 0 where
    rest' : List ℕ
    called_is : called M.tables c (session_at M past s rest) ≡ leaves (of_step (step_answer M s o)) (cells_at M (next_state s o) ++ past) (journal_at M (next_state s o) ++ rest')
    within : Within M (next_state s o) rest'

  abbrev left_back : List ℕ → Back → Called
  left_back journal b = leaves (of_step b.answer) b.memory journal

  follows_back : (h : History) (rest : List ℕ) → Within M (record { history = h }) rest → Follows back (record { history = h }) rest (replayed M back (record { history = h }))
  follows_back [] rest w =
      subst (Follows back fresh rest) (sym (none_dropped started))
      (record { rest' = rest; called_is = ap (left_back (journal_at M fresh ++ rest)) (back_none started rest w); within = w })
  follows_back (reply ∷ h) rest w =
      subst (Follows back (record { history = reply ∷ h }) rest) (sym (last_dropped started reply h))
      (record {
        rest' = log (cells_after M h) (writes_after M h reply) ++ (closing (length (writes_after M h reply)) (row_after M h) ++ rest);
        called_is = ap₂ (λ (b : Back) (j : List ℕ). left_back j b) (back_last started reply h rest w) (journal_parted M reply h rest);
        within = back-within started reply h rest w;
      })

  follows : (c : Call) (s : State) (rest : List ℕ) → Within M s rest → Follows c s rest (replayed M c s)
  unfolding replayed
  follows (forward reply) s rest w =
      let f = forwarded started s rest reply w in
      record {
        rest' = f.rest';
        called_is = ap (λ (l : Left). leaves (of_step l.answer) l.memory l.journal) (forward-leaves started s rest reply w ∙ f.leaves_is);
        within = f.within;
      }
  follows back s rest w = follows_back s.history rest w

  position-next : (s : State) (o : Outcome State) → position_of (of_step (step_answer M s o)) ≡ position_at M (next_state s o)
  position-next s (Ok s') = refl
  position-next s (Err n) = refl

  -- and so the session after it is reached too
  reaches : (c : Call) (s : State) (rest : List ℕ) (f : Follows c s rest (replayed M c s))
      → next M.tables c (session_at M past s rest) ≡ session_at M past (replay_next M c s) f.rest'
  reaches c s rest f =
      let s' : State = replay_next M c s in
      ap after f.called_is
      ∙ (λ i. record { memory = cells_at M s' ++ past; journal = journal_at M s' ++ f.rest'; position = position-next s (replayed M c s) i })

  framed-first : (c : Call) (cs : List Call) (s : State) (rest : List ℕ) → InProgram M s.history → Follows c s rest (replayed M c s)
      → Framed M.tables cs (next M.tables c (session_at M past s rest)) → Framed M.tables (c ∷ cs) (session_at M past s rest)
  unfolding replayed
  framed-first back cs s rest inside f more = more
  framed-first (forward reply) cs s rest inside f more =
      (λ call c l spared. ap (λ (a : Called). held a.memory c) f.called_is ∙ forward_kept started s reply inside call c l spared, more)

  -- ---- a list of calls, from any state of the machine: the main law

  pub record Agrees (cs : List Call) (s : State) (rest : List ℕ) : Type 0 where
    pub answers_are : answers M.tables cs (session_at M past s rest) ≡ replay_answers M cs s
    pub rest' : List ℕ
    pub end_is : end M.tables cs (session_at M past s rest) ≡ session_at M past (replay_end M cs s) rest'
    pub within : Within M (replay_end M cs s) rest'
    pub all-framed : Framed M.tables cs (session_at M past s rest)

  pub agrees : (cs : List Call) (s : State) (rest : List ℕ) → Within M s rest → Agrees cs s rest
  unfolding answers end replay_answers replay_end
  agrees [] s rest w = record { answers_are = refl; rest' = rest; end_is = refl; within = w; all-framed = tt }
  agrees (c ∷ cs) s rest w =
      let f = follows c s rest w in
      let a = agrees cs (replay_next M c s) f.rest' f.within in
      record {
        answers_are = ap₂ (λ (l : Called) (xs : List Answer). l.answer ∷ xs) f.called_is (ap (answers M.tables cs) (reaches c s rest f) ∙ a.answers_are);
        rest' = a.rest';
        end_is = ap (end M.tables cs) (reaches c s rest f) ∙ a.end_is;
        within = a.within;
        all-framed = framed-first c cs s rest w.steps f (subst (Framed M.tables cs) (sym (reaches c s rest f)) a.all-framed);
      }

  -- ---- a number that is neither 0 nor 12 and that no forward's looks give is no answer of a list

  module _ (k : Refusal) (some : 0 ≡ refusal_number k → ⊥) (last : nothing_to_take_back ≡ k → ⊥)
      (never : (s : State) (reply : List ℕ) → InProgram M s.history → replay_look M s reply ≡ Err k → ⊥) where
    back_unanswered : (h : History) → number_of (replay_answer M back (record { history = h })) ≡ refusal_number k → ⊥
    back_unanswered [] = rw (none_dropped started) (λ z. last (same_refusal z))
    back_unanswered (reply ∷ h) = rw (last_dropped started reply h) some

    unanswered : (c : Call) (s : State) → InProgram M s.history → number_of (replay_answer M c s) ≡ refusal_number k → ⊥
    unfolding replayed
    unanswered (forward reply) s l = forward_unanswered started k some s reply (never s reply l)
    unanswered back s l = back_unanswered s.history

    pub none_answers : (cs : List Call) (s : State) (rest : List ℕ) → Within M s rest → Each (λ a. number_of a ≡ refusal_number k → ⊥) (replay_answers M cs s)
    unfolding replay_answers
    none_answers [] s rest w = none
    none_answers (c ∷ cs) s rest w = let f = follows c s rest w in also (unanswered c s w.steps) (none_answers cs (replay_next M c s) f.rest' f.within)

  -- what is laid out at a state: cells of the declared kinds, and the entries of its steps
  pub typed_at : (s : State) (rest : List ℕ) → Within M s rest → Typed M.tables.regions (take (2 * cell_count M.tables.regions) (session_at M past s rest).memory)
  typed_at s rest w = rw (cells_taken started s.history) (typed_after started s.history w.steps)

  pub entries_at : (s : State) (rest : List ℕ) → used_entries (session_at M past s rest) ≡ journal_at M s
  entries_at s rest = take_at (journal_at M s) rest (3 * used_at M s) (length-journal M s.history)

-- ---- after an accepted open

module _ (t : Tables) (sound : Sound t) (memory journal : List ℕ) (a : Accepts t memory (length journal)) where
  abbrev pub machine : Machine
  machine = machine_of t (length memory) (length journal)

  abbrev pub past : List ℕ
  past = drop (2 * cell_count t.regions) memory

  pub started : Started machine past
  started = record {
    sound = sound;
    typed = sound.starts;
    behind = omega (arith, length-drop (2 * cell_count t.regions) memory, a.facts.room);
    prepared = a.prepared;
  }

  opened_is : opened t memory journal ≡ session_at machine past fresh journal
  unfolding place_after used_after stacked steps_after
  opened_is = λ i. record { memory = a.zeroed i; journal = journal; position = first_position }

  pub begins : Within machine fresh journal
  unfolding stacked steps_after
  begins = record { steps = tt; size = refl }

  module _ (calls : List Call) where
    abbrev pub state : State
    state = replay_end machine calls fresh

    pub agreed : Agrees started calls fresh journal
    agreed = agrees started calls fresh journal begins

    pub same : answers t calls (opened t memory journal) ≡ replay_answers machine calls fresh
    same = ap (answers t calls) opened_is ∙ agreed.answers_are

    pub ended : end t calls (opened t memory journal) ≡ session_at machine past state agreed.rest'
    ended = ap (end t calls) opened_is ∙ agreed.end_is

    pub within : Within machine state agreed.rest'
    within = agreed.within

    pub faithful : Faithful t memory journal calls
    faithful = record {
      kinds = subst (λ (z : Session). Typed t.regions (take (2 * cell_count t.regions) z.memory)) (sym ended) (typed_at started state agreed.rest' within);
      ruled = subst (Each Ruled) (sym same) (none_answers started no_rule (omega arith) (λ q. cc) (forward-ruled started) calls fresh journal begins);
      framed = subst (Framed t calls) (sym opened_is) agreed.all-framed;
      answers_are = same;
      memory_is = ap (λ (z : Session). z.memory) ended;
      journal_is = ap used_entries ended ∙ entries_at started state agreed.rest';
    }
