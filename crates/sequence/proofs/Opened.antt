-- What an accepted open has seen, and what it leaves: the facts of open that the sequence theorem uses. Assumes nothing.
use Rattle.type_rules.specs.declared.error.ProgramError.{ProgramError}
use Rattle.type_rules.specs.declared.error.ProgramError.TheVariants as P
use Rattle.type_rules.specs.declared.error.TypeError.{TypeError}
use Rattle.std.proofs.Common.{Result, Ok, Err}
use Prim.Native.Nat.{ℕ, ◌*◌}
use mathlib.Core.Bool.{true}
use mathlib.Core.List.{List, ◌++◌}
use mathlib.Core.Path.{◌≡◌, refl, ap, ◌∙◌}
use native.Mathlib.Omega.{arith}
use lib.ListN.{length, take, drop}
use Rattle.tables.specs.Outcome.{Outcome}
use Rattle.tables.specs.Tables.{Tables}
use Rattle.tables.specs.Cells.{cell_count}
use Rattle.tables.proofs.Passed.{passed}
use Rattle.labels.specs.Labels.{labels_fit}
use Rattle.type_check.specs.Check.{check_of}
use Rattle.journal.specs.Position.{first_position}
use Rattle.journal.specs.Cells.{cell_width}
use Rattle.operands.specs.Kinds.{zeros}
use Rattle.control_flow.specs.Condition.{conditions_fit}
use Rattle.operators.specs.Convert.{conversions_fit}
use Rattle.session.specs.Prepare.{tables_look, prepared_of}
use Rattle.session.specs.Leaves.{with_tail}
use Rattle.session.proofs.Prepared as session
use Rattle.session.proofs.Prepared.{Facts}
use Rattle.session_open.specs.Open.{unless_refused, unless_error, no_other, program_look, program_verdict, tables_verdict, open_verdict, open_cells, open_tables}

-- 1, 2, 3, 10 and 4 look at the tables and at lengths, which no call changes: after open neither forward nor back is refused with these numbers
pub record Accepts (t : Tables) (memory : List ℕ) (words : ℕ) : Type 0 where
  pub prepared : prepared_of t (length memory) words ≡ Ok (cell_count t.regions)
  pub facts : Facts t (length memory) words (cell_count t.regions)
  pub verdict : tables_verdict t ≡ (Ok tt)
  pub checked : check_of t.regions t.nodes t.instructions ≡ (Ok tt)
  pub conditions : conditions_fit t.regions t.instructions ≡ true
  pub conversions : conversions_fit t.regions t.instructions ≡ true
  pub zeroed : (open_tables t memory words).memory ≡ zeros t.regions ++ drop (cell_width * cell_count t.regions) memory

-- only an accepted program is opened
opens : (regions cells : List ℕ) (v : Result (Unit {0}) ProgramError) → (open_cells regions cells v).answer ≡ Ok first_position → v ≡ (Ok tt)
unfolding open_cells
opens regions cells (Ok _) e = refl
opens regions cells (Err (P.Refused n)) e = let z : ◌≡◌ {A = ℕ} 0 1 = cc in absurd (omega arith)
opens regions cells (Err (P.Type x)) e = let z : ◌≡◌ {A = ℕ} 0 1 = cc in absurd (omega arith)

record Unrefused {A : Type 0} (s : Outcome A) (rest : Result (Unit {0}) ProgramError) : Type 0 where
  value : A
  given : s ≡ Ok value
  rest_is : rest ≡ (Ok tt)

unrefused : {A : Type 0} (s : Outcome A) (rest : Result (Unit {0}) ProgramError) → unless_refused s rest ≡ (Ok tt) → Unrefused s rest
unrefused (Ok a) rest e = record { value = a; given = refl; rest_is = e }
unrefused (Err n) rest e = let z : ◌≡◌ {A = ℕ} 0 1 = cc in absurd (omega arith)

unfaulted : (v : Result (Unit {0}) TypeError) (rest : Result (Unit {0}) ProgramError) → unless_error v rest ≡ (Ok tt) → (v ≡ (Ok tt)) × (rest ≡ (Ok tt))
unfaulted (Ok _) rest e = (refl, e)
unfaulted (Err x) rest e = let z : ◌≡◌ {A = ℕ} 0 1 = cc in absurd (omega arith)

-- 21 and 22, behind 9 and 20
looked_over : (t : Tables) → program_look t ≡ Ok tt → (conditions_fit t.regions t.instructions ≡ true) × (conversions_fit t.regions t.instructions ≡ true)
unfolding program_look
looked_over t e =
    let (o, e₁) = passed (no_other t.instructions) _ _ _ e in
    let (l, e₂) = passed (labels_fit t.instructions) _ _ _ e₁ in
    let (c, e₃) = passed (conditions_fit t.regions t.instructions) _ _ _ e₂ in
    (c, (passed (conversions_fit t.regions t.instructions) _ _ _ e₃).0)

pub accepts : (t : Tables) (memory : List ℕ) (words : ℕ) → (open_tables t memory words).answer ≡ Ok first_position → Accepts t memory words
unfolding open_tables with_tail open_verdict tables_verdict program_verdict open_cells
accepts t memory words e =
    let w : ℕ = cell_width * cell_count t.regions in
    let verdict = opens t.regions (take w memory) (open_verdict t (length memory) words) e in
    let p = unrefused (prepared_of t (length memory) words) (tables_verdict t) verdict in
    let q = unrefused (tables_look t) (program_verdict t) p.rest_is in
    let (checked, rest) = unfaulted (check_of t.regions t.nodes t.instructions) (unless_refused (program_look t) (Ok tt)) q.rest_is in
    let looked = unrefused (program_look t) (Ok tt) rest in
    let given = p.given ∙ ap Ok (session.prepared t (length memory) words p.given).count in
    record {
      prepared = given;
      facts = session.prepared t (length memory) words given;
      verdict = p.rest_is;
      checked = checked;
      conditions = (looked_over t looked.given).0;
      conversions = (looked_over t looked.given).1;
      zeroed = ap (λ (v : Result (Unit {0}) ProgramError). (open_cells t.regions (take w memory) v).memory ++ drop w memory) verdict;
    }
