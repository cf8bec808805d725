-- Every forward that moves uses at most 65 entries more, over a CONVERT 2, whatever it is lent: behind its looks the cells are not too many, and then the changes are counted by the row's family. Assumes nothing.
use Rattle.session.specs.Answer.{StepAnswer}
use Rattle.std.proofs.Common.{Ok, Err}
use Prim.Native.Nat.{ℕ, ◌+◌, ◌*◌, ◌≤◌}
use mathlib.Core.List.{List}
use mathlib.Core.Bool.{true}
use mathlib.Core.Path.{◌≡◌, refl, ap, ◌∙◌}
use native.Mathlib.Omega.{arith}
use lib.Dec.{ltb, leb}
use lib.ListN.{length, take}
use borrow.Author.Tests.{eqb-true}
use Rattle.tables.specs.Cases.{case_of}
use Rattle.tables.specs.Family as family
use Rattle.tables.specs.Outcome.{Outcome}
use Rattle.tables.specs.Tables.{Tables}
use Rattle.tables.specs.Rows.{instruction_rows, instruction_at}
use Rattle.tables.specs.Cells.{cell_count}
use Rattle.tables.proofs.Passed.{passed}
use Rattle.journal.specs.declared.cells.Write.{Write}
use Rattle.journal.specs.declared.position.Position.{Position}
use Rattle.journal.specs.Cells.{cell_width}
use Rattle.call_reply.specs.Call.{reply_limit}
use Rattle.operands.specs.Reach.{Laid}
use Rattle.operands.proofs.Binds.{bound}
use Rattle.operators.specs.Convert.{is_convert}
use Rattle.machine.specs.Outcome.{outcome_at}
use Rattle.machine.proofs.WritesLaws.{changes_of}
use Rattle.control_flow.specs.Next.{next_row}
use Rattle.session.specs.Prepare.{entries_of, prepared_of}
use Rattle.session.specs.Position.{placed_look, room_for}
use Rattle.session.specs.Leaves.{with_tail}
use Rattle.session.specs.Answer.{position_of}
use Rattle.session.proofs.Prepared.{prepared}
use Rattle.session_forward.specs.Forward.{step_look, forward_look, stepped, forward_tables}
use Rattle.soundness.proofs.Counts.{plain_changes, outcome_most, most_few}
use Rattle.sequence.specs.JournalLength.{StepEntries, ConvertEntries}

-- the writes that a step's looks let pass are its row's outcome, on cells that are not too many
record Looked (t : Tables) (p : Position) (reply : List ℕ) (ws : List Write) : Type 0 where
  cells : List ℕ
  laid : Laid t.regions
  outcome_is : outcome_at t cells p.row reply ≡ Ok ws

module _ (t : Tables) (p : Position) (reply : List ℕ) {ws : List Write} where
  -- behind 11, the row's looks and 13
  step-looked : Laid t.regions → (cells : List ℕ) (entries : ℕ) → step_look t cells entries p reply ≡ Ok ws → Looked t p reply ws
  unfolding step_look room_for
  step-looked laid cells entries e =
      let (l, e₁) = passed (ltb p.row (instruction_rows t.instructions)) _ _ _ e in
      let b = bound (outcome_at t cells p.row reply) _ ws e₁ in
      let (room, e₂) = passed (leb (length b.value + 1) _) _ _ _ b.rest in
      record { cells = cells; laid = laid; outcome_is = b.given ∙ e₂ }

  -- behind 1, 2, 3, 10 and 4 too, after which the cells are not too many
  forward-looked : (memory : List ℕ) (journal : ℕ) → forward_look t memory journal p reply ≡ Ok ws → Looked t p reply ws
  unfolding forward_look placed_look
  forward-looked memory journal e =
      let b = bound (placed_look t (length memory) journal p) _ ws e in
      let c = bound (prepared_of t (length memory) journal) _ b.value b.given in
      let f = prepared t (length memory) journal c.given in
      step-looked (record { few = omega (arith, f.count, f.few) }) (take (cell_width * b.value) memory) (entries_of journal) b.rest

  looked-few : Looked t p reply ws → length ws ≤ reply_limit
  unfolding outcome_at
  looked-few o =
      let x = instruction_at t.instructions p.row in
      omega (arith, outcome_most t x reply o.laid o.cells o.outcome_is, most_few x.family)

  looked-one : is_convert (instruction_at t.instructions p.row) ≡ true → Looked t p reply ws → length ws ≡ 1
  unfolding outcome_at changes_of case_of
  looked-one convert o =
      let x = instruction_at t.instructions p.row in
      let q = eqb-true x.family family.convert convert in
      plain_changes t x reply o.laid o.cells o.outcome_is (rw q) ∙ rw q

-- a step that moves, by its changes and its closing entry
record Changed (t : Tables) (p : Position) (reply : List ℕ) (p' : Position) : Type 0 where
  writes : List Write
  looked : Looked t p reply writes
  used : p.used + (length writes + 1) ≡ p'.used

moved_by : (t : Tables) (cells journal : List ℕ) (p p' : Position) (reply : List ℕ) (next : ℕ) (o : Outcome (List Write)) → ((ws : List Write) → o ≡ Ok ws → Looked t p reply ws)
    → (stepped cells journal p next o).answer ≡ Ok p' → Changed t p reply p'
unfolding stepped
moved_by t cells journal p p' reply next (Ok ws) looked e = record { writes = ws; looked = looked ws refl; used = ap (λ (a : StepAnswer). (position_of a).used) e }
moved_by t cells journal p p' reply next (Err number) looked e = let z : ◌≡◌ {A = ℕ} 0 1 = cc in absurd (omega arith)

changed : (t : Tables) (memory journal : List ℕ) (p p' : Position) (reply : List ℕ) → (forward_tables t memory journal p reply).answer ≡ Ok p' → Changed t p reply p'
unfolding forward_tables with_tail
changed t memory journal p p' reply e =
    let cells : List ℕ = take (cell_width * cell_count t.regions) memory in
    moved_by t cells journal p p' reply (next_row t.regions t.instructions cells p.row) (forward_look t memory (length journal) p reply)
    (λ ws. forward-looked t p reply memory (length journal)) e

pub step-entries : StepEntries
step-entries t memory journal p p' reply e =
    let c = changed t memory journal p p' reply e in
    omega (arith, looked-few t p reply c.looked, c.used)

pub convert-entries : ConvertEntries
convert-entries t memory journal p p' reply convert e =
    let c = changed t memory journal p p' reply e in
    omega (arith, looked-one t p reply convert c.looked, c.used)
