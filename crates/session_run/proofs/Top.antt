-- The claim on run: every run is that many forwards. No premises, no axioms.
use Rattle.std.proofs.Common.{ℕ, zero, suc, ◌+◌, ◌*◌, ◌<◌, Bool, true, false, cond, List, [], ◌≡◌, refl, sym, ap, ◌∙◌, subst, arith, length, take, drop, take-append-drop, leb, ltb, Ok, Err}
use borrow.Author.Tests.{leb-true, leb-false, ltb-true}
use Rattle.tables.specs.declared.refusal.Refusal as R
use Rattle.tables.specs.Outcome.{Outcome, ◌>>=◌}
use Rattle.tables.specs.Tables.{Tables}
use Rattle.tables.specs.Rows.{instruction_rows, instruction_at}
use Rattle.tables.specs.Cells.{cell_count}
use Rattle.tables.proofs.Passed.{passed}
use Rattle.journal.specs.declared.cells.Write.{Write}
use Rattle.journal.specs.declared.position.Position.{Position}
use Rattle.journal.specs.Cells.{cell_width}
use Rattle.machine.specs.Outcome.{is_call}
use Rattle.control_flow.specs.Next.{next_row}
use Rattle.operands.proofs.Binds.{bound}
use Rattle.session.specs.Answer.{StepAnswer, RunAnswer, position_of}
use Rattle.session.specs.Leaves.{extended, with_tail}
use Rattle.session.specs.Position.{placed_look}
use Rattle.session.specs.Session.{Session, after}
use Rattle.session.specs.declared.answer.Stop.{Stop}
use Rattle.session.specs.declared.answer.Stop.TheVariants.{Allowance, End, Call, Refusal}
use Rattle.session_forward.specs.Forward.{Left, left, step_look, forward_look, stepped, forward_tables}
use Rattle.session_run.specs.Run.{Running, stopped, onward, turn, run_by, forward_step, unless_refused, run_tables}
use Rattle.session_run.specs.Claim.{forward_from, forwards, Moves, BeforeCall, Says, RunIs, ended, lent, Runs, RunClaim}

-- the parts of an answer
abbrev steps_told : RunAnswer → ℕ
steps_told (Ok (steps, stop, p)) = steps
steps_told (Err (number, p)) = 0

abbrev stop_told : RunAnswer → Stop
stop_told (Ok (steps, stop, p)) = stop
stop_told (Err (number, p)) = Allowance

abbrev refusal_or : R.Refusal → RunAnswer → R.Refusal
refusal_or other (Ok (steps, stop, p)) = other
refusal_or other (Err (number, p)) = number

module _ (t : Tables) where
  abbrev rows : ℕ
  rows = instruction_rows t.instructions

  -- ---- one forward

  -- it moves by one step, or leaves all as it was
  data Forwarded (s : Session) (l : Left) : Type 0 where
    moved : (p : Position) → l.answer ≡ Ok p → p.done ≡ s.position.done + 1 → Forwarded s l
    refused : (number : R.Refusal) → l ≡ left (Err (number, s.position)) s.memory s.journal → Forwarded s l

  stepped_by : (s : Session) (w next : ℕ) (o : Outcome (List Write)) → Forwarded s (extended (stepped (take w s.memory) s.journal s.position next o) (drop w s.memory))
  unfolding stepped
  stepped_by s w next (Ok ws) = moved _ refl refl
  stepped_by s w next (Err number) = refused number (ap (λ (m : List ℕ). left (Err (number, s.position)) m s.journal) (take-append-drop w s.memory))

  forwarded : (s : Session) → Forwarded s (forward_from t s)
  unfolding forward_tables with_tail
  forwarded s = stepped_by s (cell_width * cell_count t.regions) _ (forward_look t s.memory (length s.journal) s.position [])

  -- a row that a forward takes is a row of the program
  moves-inside : (s : Session) → Moves t s → s.position.row < rows
  unfolding forward_tables with_tail forward_look step_look stepped
  moves-inside s m = at (next_row t.regions t.instructions (take (cell_width * cell_count t.regions) s.memory) s.position.row) (forward_look t s.memory (length s.journal) s.position []) refl m.moved
    where
      at : (next : ℕ) (o : Outcome (List Write)) → forward_look t s.memory (length s.journal) s.position [] ≡ o
          → (stepped (take (cell_width * cell_count t.regions) s.memory) s.journal s.position next o).answer ≡ Ok m.position → s.position.row < rows
      at next (Ok ws) e q =
          let b = bound (placed_look t (length s.memory) (length s.journal) s.position) _ ws e in
          ltb-true s.position.row rows (passed (ltb s.position.row rows) _ _ _ b.rest).0
      at next (Err number) e q = let z : ◌≡◌ {A = ℕ} 0 1 = cc in absurd (omega arith)

  -- ---- a run from a session, after so many steps taken before

  record Goes (s : Session) (allowance taken : ℕ) (r : Running) : Type 0 where
    steps : ℕ
    stop : Stop
    position : Position
    answer_is : r.answer ≡ Ok (taken + steps, stop, position)
    is : RunIs t s allowance steps stop (ended r)

  -- one that stops at once
  stops : (s : Session) (allowance taken : ℕ) (stop : Stop) → Says t allowance 0 s stop → (0 < allowance → Moves t s → BeforeCall t s)
      → Goes s allowance taken (stopped taken stop s.position s.memory s.journal)
  unfolding forwards
  stops s allowance taken stop says short = record {
    steps = 0;
    stop = stop;
    position = s.position;
    answer_is = ap (λ (n : ℕ). Ok (n, stop, s.position)) (omega arith);
    is = record {
      at_most = omega arith;
      leaves_is = refl;
      moves = λ k h. absurd (omega arith);
      counted = omega arith;
      says = says;
      short = short;
    };
  }

  -- a step more
  says_more : (left steps : ℕ) (e : Session) (stop : Stop) → Says t left steps e stop → Says t (suc left) (suc steps) e stop
  says_more left steps e Allowance q = ap suc q
  says_more left steps e End q = (omega (arith, q.0), q.1)
  says_more left steps e Call q = (omega (arith, q.0), q.1)
  says_more left steps e (Refusal number) q = (omega (arith, q.0), q.1)

  moves_more : (s : Session) (steps : ℕ) → Moves t s → ((k : ℕ) → k < steps → Moves t (forwards t k (after (forward_from t s))))
      → (k : ℕ) → k < suc steps → Moves t (forwards t k s)
  unfolding forwards
  moves_more s steps m more zero h = m
  moves_more s steps m more (suc k) h = more k (omega arith)

  one_more : (s : Session) (left taken : ℕ) (r : Running) (p : Position) → (forward_from t s).answer ≡ Ok p → p.done ≡ s.position.done + 1
      → Goes (after (forward_from t s)) left (taken + 1) r → Goes s (suc left) taken r
  unfolding forwards
  one_more s left taken r p e d g =
      let i = g.is in
      let done : (after (forward_from t s)).position.done ≡ s.position.done + 1 = ap (λ (a : StepAnswer). (position_of a).done) e ∙ d in
      record {
        steps = suc g.steps;
        stop = g.stop;
        position = g.position;
        answer_is = g.answer_is ∙ ap (λ (n : ℕ). Ok (n, g.stop, g.position)) (omega arith);
        is = record {
          at_most = omega (arith, i.at_most);
          leaves_is = i.leaves_is;
          moves = moves_more s g.steps (record { position = p; moved = e }) i.moves;
          counted = omega (arith, i.counted, done);
          says = says_more left g.steps (ended r) g.stop i.says;
          short = λ h. i.short (omega arith);
        };
      }

  module _ (left taken : ℕ) (more : (s : Session) → Goes s left (taken + 1) (run_by (forward_step t) t.instructions left (taken + 1) s.memory s.journal s.position)) (s : Session) where
    abbrev l : Left
    l = forward_from t s

    abbrev rest : List ℕ → List ℕ → Position → Running
    rest = run_by (forward_step t) t.instructions left (taken + 1)

    -- at a row of the program that is no CALL
    goes_on : s.position.row < rows → is_call (instruction_at t.instructions s.position.row) ≡ false → Forwarded s l → Goes s (suc left) taken (onward rest taken l.memory l.journal l.answer)
    goes_on h f (moved p e d) =
        one_more s left taken _ p e d
        (subst (λ (a : StepAnswer). Goes (after l) left (taken + 1) (onward rest taken l.memory l.journal a)) (sym e)
        (subst (λ (q : Position). Goes (after l) left (taken + 1) (rest l.memory l.journal q)) (ap position_of e) (more (after l))))
    goes_on h f (refused number e) =
        subst (λ (k : Left). Goes s (suc left) taken (onward rest taken k.memory k.journal k.answer)) (sym e)
        (stops s (suc left) taken (Refusal number) (omega arith, record { row = h; plain = f; refused = ap (λ (k : Left). k.answer) e }) (λ z m.
        let z : ◌≡◌ {A = ℕ} 0 1 = ap is_moved (sym (ap (λ (k : Left). k.answer) e) ∙ m.moved) in absurd (omega arith)))
      where
        is_moved : StepAnswer → ℕ
        is_moved (Ok p) = 1
        is_moved (Err (n, p)) = 0

    turns : Goes s (suc left) taken (turn (forward_step t) t.instructions rest taken s.memory s.journal s.position)
    unfolding turn
    turns = at (leb rows s.position.row) refl (is_call (instruction_at t.instructions s.position.row)) refl
      where
        at : (a : Bool) → leb rows s.position.row ≡ a → (b : Bool) → is_call (instruction_at t.instructions s.position.row) ≡ b
            → Goes s (suc left) taken
            (cond a (stopped taken End s.position s.memory s.journal)
            (cond b (stopped taken Call s.position s.memory s.journal) (onward rest taken l.memory l.journal l.answer)))
        at true e b f =
            let h = leb-true rows s.position.row e in
            stops s (suc left) taken End (omega arith, h) (λ z m. absurd (omega (arith, moves-inside s m, h)))
        at false e true f = let call : BeforeCall t s = record { row = leb-false rows s.position.row e; call = f } in stops s (suc left) taken Call (omega arith, call) (λ h m. call)
        at false e false f = goes_on (leb-false rows s.position.row e) f (forwarded s)

  goes : (allowance taken : ℕ) (s : Session) → Goes s allowance taken (run_by (forward_step t) t.instructions allowance taken s.memory s.journal s.position)
  unfolding run_by
  goes zero taken s = stops s zero taken Allowance refl (λ h. absurd (omega arith))
  goes (suc left) taken s = turns left taken (goes left (taken + 1)) s

  -- ---- the call

  module _ (memory journal : List ℕ) (p : Position) where
    abbrev run : ℕ → Running
    run allowance = run_by (forward_step t) t.instructions allowance 0 memory journal p

    said : (allowance : ℕ) (r : Running) (steps : ℕ) (stop : Stop) (p' : Position) → Goes (lent t memory journal p) allowance 0 r → r.answer ≡ Ok (steps, stop, p')
        → RunIs t (lent t memory journal p) allowance steps stop (ended r)
    said allowance r steps stop p' g e =
        let same = sym g.answer_is ∙ e in
        let n : g.steps ≡ steps = (let z : 0 + g.steps ≡ steps = ap steps_told same in omega arith) in
        let q : g.stop ≡ stop = ap stop_told same in
        subst (λ (k : Stop). RunIs t (lent t memory journal p) allowance steps k (ended r)) q
        (subst (λ (k : ℕ). RunIs t (lent t memory journal p) allowance k g.stop (ended r)) n g.is)

    ran_is : (allowance steps : ℕ) (stop : Stop) (p' : Position) (o : Outcome ℕ) → (unless_refused o p memory journal (run allowance)).answer ≡ Ok (steps, stop, p')
        → RunIs t (lent t memory journal p) allowance steps stop (ended (unless_refused o p memory journal (run allowance)))
    ran_is allowance steps stop p' (Ok n) e = said allowance (run allowance) steps stop p' (goes allowance 0 (lent t memory journal p)) e
    ran_is allowance steps stop p' (Err number) e = let z : ◌≡◌ {A = ℕ} 0 1 = cc in absurd (omega arith)

    -- forward makes the same looks first
    forward-refused : (number : R.Refusal) → placed_look t (length memory) (length journal) p ≡ Err number → (forward_from t (lent t memory journal p)).answer ≡ Err (number, p)
    unfolding forward_tables with_tail forward_look stepped ◌>>=◌
    forward-refused number e = rw e

    refused_is : (allowance : ℕ) (number : R.Refusal) (p' : Position) (o : Outcome ℕ) → placed_look t (length memory) (length journal) p ≡ o
        → (unless_refused o p memory journal (run allowance)).answer ≡ Err (number, p')
        → (ended (unless_refused o p memory journal (run allowance)) ≡ lent t memory journal p) × ((forward_from t (lent t memory journal p)).answer ≡ Err (number, p))
    refused_is allowance number p' (Ok n) h e =
        let g = goes allowance 0 (lent t memory journal p) in
        let same = sym g.answer_is ∙ e in
        let z : ◌≡◌ {A = ℕ} 0 1 = cc in absurd (omega arith)
    refused_is allowance number p' (Err k) h e = let q : k ≡ number = ap (refusal_or k) e in (refl, forward-refused number (h ∙ ap Err q))

    none_is : (o : Outcome ℕ) → ended (unless_refused o p memory journal (run 0)) ≡ lent t memory journal p
    unfolding run_by
    none_is (Ok n) = refl
    none_is (Err number) = refl

    runs : Runs t memory journal p
    unfolding run_tables
    runs = record {
      ran = λ allowance steps stop p' e. ran_is allowance steps stop p' (placed_look t (length memory) (length journal) p) e;
      refused = λ allowance number p' e. refused_is allowance number p' (placed_look t (length memory) (length journal) p) refl e;
      none = none_is (placed_look t (length memory) (length journal) p);
    }

pub run_claim : RunClaim
run_claim t memory journal p = runs t memory journal p
