-- Forward's parts: the row at a position, what its functions ask for, a step's end (13 or the writes), and a step in a memory whose first words are the cells.
-- Assumes nothing.
use Rattle.std.proofs.Common.{ℕ, zero, suc, All, ◌+◌, ◌*◌, ◌-◌, ◌<◌, ◌≤◌, Bool, true, false, List, [], ◌∷◌, ◌++◌, ◌≡◌, refl, arith, length, take, drop, ltb, leb, Ok, Err}
use borrow.Author.Tests.{ltb-true, leb-true}
use Rattle.tables.specs.declared.refusal.Refusal.{Refusal}
use Rattle.tables.specs.Refusal.{foreign_position, at_end, journal_full}
use Rattle.tables.specs.Outcome.{◌>>=◌, ◌>>◌, need}
use Rattle.tables.specs.Tables.{Tables}
use Rattle.tables.specs.Rows.{instruction_rows, instruction_at}
use Rattle.word_rules.specs.Instruction as I
use Rattle.tables.specs.declared.rows.Instruction.{Instruction}
use Rattle.loader.proofs.Loaded.{loaded, few-instructions, instruction_allowed_lem, call-arguments, extern_parameters}
use Rattle.tables.proofs.Passed.{both, passed}
use Rattle.journal.specs.declared.cells.Write.{Write}
use Rattle.journal.specs.Each.{Each, none, also}
use Rattle.journal.specs.declared.position.Position.{Position}
use Rattle.journal.specs.Position.{advanced}
use Rattle.journal.specs.Cells.{cell_width, applied}
use Rattle.journal.specs.Entries.{entry_width, journaled}
use Rattle.machine.specs.Outcome.{outcome_of, outcome_at}
use Rattle.control_flow.specs.Next.{next_row}
use Rattle.operands.specs.Reach.{There, Layout}
use Rattle.operands.proofs.Reaches.{in_cells}
use Rattle.machine.proofs.WritesLaws.{Within}
use Rattle.tables.specs.Cells.{cell_count}
use Rattle.session.specs.Answer.{StepAnswer}
use Rattle.session.specs.Prepare.{entries_of, prepared_of, Ready}
use Rattle.session.specs.Position.{position_fits, room_for}
use Rattle.session.proofs.Prepared.{prepared}
use Rattle.session.proofs.PositionLaws.{fits, placed_then}
use Rattle.session.proofs.LeavesLaws.{tail_kept, all_kept}
use Rattle.session_forward.specs.Forward.{step_look, forward_look, left, stepped, forward_tables}
use Rattle.session_forward.specs.Step.{row_look, current_row, row_leaves, Steppable, RowReady}

-- ---- the row at a position

module _ (t : Tables) (cells : List ℕ) (entries : ℕ) (p : Position) (reply : List ℕ) where
  row_look_lem : row_look t cells entries p reply ≡ (current_row t.instructions entries p >>= (λ x. outcome_of t cells x reply >>= room_for entries p))
  unfolding row_look step_look current_row outcome_at ◌>>=◌ ◌>>◌ need
  row_look_lem = at (position_fits t.instructions entries p) (ltb p.row (instruction_rows t.instructions))
    where
      at : (a b : Bool)
          → (need a foreign_position >> (need b at_end >> (outcome_of t cells (instruction_at t.instructions p.row) reply >>= room_for entries p)))
          ≡ ((need a foreign_position >> (need b at_end >> Ok (instruction_at t.instructions p.row))) >>= (λ x. outcome_of t cells x reply >>= room_for entries p))
      at true true = refl
      at true false = refl
      at false b = refl

  pub row-refused : {number : Refusal} → current_row t.instructions entries p ≡ Err number → row_look t cells entries p reply ≡ Err number
  unfolding ◌>>=◌
  row-refused e = rw (row_look_lem, e)

  pub row_taken : {x : Instruction} → current_row t.instructions entries p ≡ Ok x → row_look t cells entries p reply ≡ (outcome_of t cells x reply >>= room_for entries p)
  unfolding ◌>>=◌
  row_taken e = rw (row_look_lem, e)

-- what 19 and 11 have seen
pub record Current (instructions : List ℕ) (entries : ℕ) (p : Position) (x : Instruction) : Type 0 where
  pub there : p.row < instruction_rows instructions
  pub steps : p.done ≤ p.used
  pub used : p.used ≤ entries
  pub is : x ≡ instruction_at instructions p.row

pub current : (instructions : List ℕ) (entries : ℕ) (p : Position) {x : Instruction} → current_row instructions entries p ≡ Ok x → Current instructions entries p x
unfolding current_row
current instructions entries p {x} e =
    let (f, e₁) = passed (position_fits instructions entries p) _ _ _ e in
    let (l, e₂) = passed (ltb p.row (instruction_rows instructions)) _ _ _ e₁ in
    let within = fits instructions entries p f in
    record {
      there = ltb-true p.row (instruction_rows instructions) l;
      steps = within.steps;
      used = within.used;
      is = cc;
    }

-- ---- what the functions ask for

pub ready_steppable : {t : Tables} {cells : List ℕ} {journal : ℕ} → Ready t cells journal
    → Steppable t.regions t.externs t.parameters t.arguments t.instructions cells journal
unfolding I.instruction_allowed
ready_steppable {t} r =
    let l = loaded t r.loads in
    record {
      layout = r.layout;
      rows = few-instructions l;
      form = λ k h.
          let x = instruction_at t.instructions k in
          (both (I.form_allowed x.family x.source_form) _ (both (ltb x.operator (I.operators_of x.family)) _ (instruction_allowed_lem l k h)).1).0;
      call = λ k h f. record { argument_range = call-arguments l k h f; parameter_range = extern_parameters l };
      short = r.short;
    }

module _ {regions externs parameters arguments instructions cells : List ℕ} {journal : ℕ} {x : Instruction}
    (p : Position) (s : Steppable regions externs parameters arguments instructions cells journal) (e : current_row instructions (entries_of journal) p ≡ Ok x) where
  here : Current instructions (entries_of journal) p x
  here = current instructions (entries_of journal) p e

  pub row_ready : RowReady regions externs parameters arguments instructions x cells journal p
  row_ready = record {
    there = here.there;
    opened = record { layout = s.layout; form = rw here.is (s.form p.row here.there) };
    call = λ f. rw here.is (s.call p.row here.there (rw here.is at f));
    placed = record { steps = here.steps; used = here.used; short = s.short };
  }

-- the cells of a plain row's writes are there
pub all_there : {regions cells : List ℕ} {ws : List Write} → Layout regions cells → Each (Within regions) ws → All (λ w. There cells w.cell) ws
all_there l none k d h = absurd (omega arith)
all_there l (also w ws) zero d h = in_cells l w
all_there l (also w ws) (suc k) d h = all_there l ws k d (omega arith)

-- ---- a step's end

-- room for n changes and the closing entry
pub room-words : (journal n : ℕ) (p : Position) → leb (n + 1) (entries_of journal - p.used) ≡ true → entry_width * (p.used + (n + 1)) ≤ journal
room-words journal n p e = omega (arith, leb-true (n + 1) (entries_of journal - p.used) e)

module _ (cells journal : List ℕ) (p : Position) (next : ℕ) (ws : List Write) (n : ℕ) (e : length ws ≡ n) where
  pub full : leb (n + 1) (entries_of (length journal) - p.used) ≡ false → left (Err (journal_full, p)) cells journal ≡ row_leaves cells journal p next (Ok ws)
  unfolding row_leaves room_for stepped ◌>>=◌ ◌>>◌ need
  full h = rw (e, h)

  pub roomy : {q : Position} {cells' journal' : List ℕ} → leb (n + 1) (entries_of (length journal) - p.used) ≡ true
      → q ≡ advanced p next n → cells' ≡ applied cells ws → journal' ≡ journaled journal p.used p.row cells ws
      → left (Ok q) cells' journal' ≡ row_leaves cells journal p next (Ok ws)
  unfolding row_leaves room_for stepped ◌>>=◌ ◌>>◌ need
  roomy h eq ec ej = rw (rw (← e) at h, eq, ← e, ec, ej)

-- ---- in memory

module _ (t : Tables) (memory journal : List ℕ) (p : Position) (reply : List ℕ) where
  -- where the row leads, by the cells
  abbrev leads : List ℕ → ℕ
  leads cells = next_row t.regions t.instructions cells p.row

  -- the looks behind 4, as `step_row` makes them
  pub forward_look_lem : forward_look t memory (length journal) p reply
      ≡ (prepared_of t (length memory) (length journal) >>= (λ n. row_look t (take (cell_width * n) memory) (entries_of (length journal)) p reply))
  unfolding forward_look row_look
  forward_look_lem = placed_then t (length memory) (length journal) p (λ n. step_look t (take (cell_width * n) memory) (entries_of (length journal)) p reply)

  -- 1, 2, 3, 10 or 4
  pub forward_unprepared : {number : Refusal} → prepared_of t (length memory) (length journal) ≡ Err number
      → left (Err (number, p)) memory journal ≡ forward_tables t memory journal p reply
  unfolding forward_tables stepped ◌>>=◌
  forward_unprepared {number} e = rw (forward_look_lem, e) (all_kept (cell_width * cell_count t.regions) memory (λ cells. stepped cells journal p (leads cells) (Err number)) refl)

  -- behind them, with n cells
  pub forward_on : {n : ℕ} → prepared_of t (length memory) (length journal) ≡ Ok n → {a : StepAnswer} {cells journal' : List ℕ}
      → left a cells journal' ≡ stepped (take (cell_width * n) memory) journal p (leads (take (cell_width * n) memory)) (row_look t (take (cell_width * n) memory) (entries_of (length journal)) p reply)
      → left a (cells ++ drop (cell_width * n) memory) journal' ≡ forward_tables t memory journal p reply
  unfolding forward_tables ◌>>=◌
  forward_on {n} e h =
      rw (forward_look_lem, e, ← (prepared t (length memory) (length journal) e).count)
      (tail_kept (cell_width * n) memory (λ cells. stepped cells journal p (leads cells) (row_look t (take (cell_width * n) memory) (entries_of (length journal)) p reply)) h)
