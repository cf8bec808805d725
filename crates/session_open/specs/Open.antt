-- 01, Order: "Open: 1, 2, 3, 10, 4, 5, 9, then 6, 7, 8 by row."; 02, P4: "after 9 and before the calls" 20, "and then in open alone" 21; P5: "in open after 21" 22.
use Rattle.session.specs.Answer.{OpenAnswer}
use Rattle.type_rules.specs.declared.error.ProgramError.{ProgramError}
use Rattle.type_rules.specs.declared.error.ProgramError.TheVariants as P
use Rattle.type_rules.specs.declared.error.TypeError.{TypeError}
use Rattle.std.specs.Prelude.{ℕ, ◌*◌, ◌<◌, ◌≤◌, Bool, true, false, not, cond, List, [], ◌≡◌, length, Result, Ok, Err}
use Rattle.tables.specs.Family as family
use Rattle.tables.specs.Refusal.{other_instruction, unfit_labels, condition_not_bit, unfit_conversion}
use Rattle.tables.specs.Outcome.{Outcome, ◌>>◌, need}
use Rattle.tables.specs.First.{first, every}
use Rattle.tables.specs.Tables.{Tables, tables_of}
use Rattle.tables.specs.Rows.{instruction_limit, instruction_rows, instruction_at}
use Rattle.labels.specs.Labels.{labels_fit}
use Rattle.loader.specs.Load.{load_look}
use Rattle.tables.specs.Cells.{cell_count}
use Rattle.type_check.specs.Check.{check_of}
use Rattle.extern_call.specs.Call.{CallRanges, resolves_call}
use Rattle.journal.specs.Position.{first_position}
use Rattle.journal.specs.Cells.{cell_width}
use Rattle.operands.specs.Kinds.{zeros}
use Rattle.operands.specs.Reach.{Layout}
use Rattle.machine.specs.Outcome.{is_call, is_other}
use Rattle.control_flow.specs.Condition.{conditions_fit}
use Rattle.operators.specs.Convert.{conversions_fit}
use Rattle.session.specs.Prepare.{tables_look, prepared_of}
use Rattle.session.specs.Leaves.{Leaves, leaves, with_tail}

-- ---- the looks at the rows

-- "9 instruction 10/1": in open, of any row
unfoldable pub no_other : List ℕ → Bool
no_other instructions = every (λ k. not (is_other (instruction_at instructions k))) (instruction_rows instructions)

-- 6, 7, 8 of row k, where it is a CALL
unfoldable pub call_look : Tables → ℕ → Outcome (Unit {0})
call_look t k =
    cond (is_call (instruction_at t.instructions k))
    (resolves_call t.regions t.externs t.parameters t.arguments (instruction_at t.instructions k) >> Ok tt) (Ok tt)

abbrev pub is_refused : {A : Type 0} → Outcome A → Bool
is_refused (Ok a) = false
is_refused (Err n) = true

-- of the n rows from a row on
abbrev pub calls_from : Tables → ℕ → ℕ → Outcome (Unit {0})
calls_from t row n = first (λ k. is_refused (call_look t k)) (call_look t) (Ok tt) row n

-- "6, 7, 8 by row"
unfoldable pub calls_look : Tables → Outcome (Unit {0})
calls_look t = calls_from t 0 (instruction_rows t.instructions)

-- 9, 20, 21, 22, then 6, 7, 8 by row
unfoldable pub program_look : Tables → Outcome (Unit {0})
program_look t = do
  need (no_other t.instructions) other_instruction
  need (labels_fit t.instructions) unfit_labels
  need (conditions_fit t.regions t.instructions) condition_not_bit
  need (conversions_fit t.regions t.instructions) unfit_conversion
  calls_look t

-- What the functions over a program's rows ask for, index safety alone; and their tables, as these looks see no node.
pub record CallsInside (externs parameters arguments instructions : List ℕ) : Type 0 where
  pub few : instruction_rows instructions ≤ instruction_limit
  pub row : (k : ℕ) → k < instruction_rows instructions → (instruction_at instructions k).family ≡ family.call
      → CallRanges externs parameters arguments (instruction_at instructions k)

abbrev pub call_tables : List ℕ → List ℕ → List ℕ → List ℕ → List ℕ → Tables
call_tables regions externs parameters arguments instructions = tables_of regions externs parameters [] arguments instructions

-- ---- the verdict

-- the first look that turns the program down is the verdict
abbrev pub unless_refused : {A : Type 0} → Outcome A → Result (Unit {0}) ProgramError → Result (Unit {0}) ProgramError
unless_refused (Ok a) rest = rest
unless_refused (Err r) rest = Err (P.Refused r)

abbrev pub unless_error : Result (Unit {0}) TypeError → Result (Unit {0}) ProgramError → Result (Unit {0}) ProgramError
unless_error (Ok _) rest = rest
unless_error (Err e) rest = Err (P.Type e)

-- 5, then those
unfoldable pub program_verdict : Tables → Result (Unit {0}) ProgramError
program_verdict t =
    unless_error (check_of t.regions t.nodes t.instructions)
    (unless_refused (program_look t)
    (Ok tt))

-- 1, 2, 3, 10, 5, 9, 20, 21, 22, then 6, 7, 8 by row: open's looks without the buffers
unfoldable pub tables_verdict : Tables → Result (Unit {0}) ProgramError
tables_verdict t = unless_refused (tables_look t) (program_verdict t)

-- "1, 2, 3, 10, 4, 5, ..": 4 is looked for before 5; what passed ahead of it passes again. memory and journal are lengths in words.
unfoldable pub open_verdict : Tables → ℕ → ℕ → Result (Unit {0}) ProgramError
open_verdict t memory journal = unless_refused (prepared_of t memory journal) (tables_verdict t)

-- ---- what open leaves; it writes no journal word

abbrev pub Opening : Type 0
Opening = Leaves OpenAnswer (Unit {0})

abbrev pub opening : OpenAnswer → List ℕ → Opening
opening answer memory = leaves answer memory tt

-- on the cells of the regions: "Open zeroes each cell with its declared kind .. and gives" the first position; "A refusal .. writes nothing"
unfoldable pub open_cells : List ℕ → List ℕ → Result (Unit {0}) ProgramError → Opening
open_cells regions cells (Ok _) = opening (Ok first_position) (zeros regions)
open_cells regions cells (Err e) = opening (Err e) cells

-- What the function behind it asks for: the tables are loaded, and the cells are those of their regions.
pub record Openable (t : Tables) (cells : List ℕ) : Type 0 where
  pub loads : load_look t ≡ Ok tt
  pub layout : Layout t.regions cells

-- It "leaves memory past the cells and the journal", of which it takes the length alone.
unfoldable pub open_tables : Tables → List ℕ → ℕ → Opening
open_tables t memory journal =
    with_tail (cell_width * cell_count t.regions) memory
    (λ cells. open_cells t.regions cells (open_verdict t (length memory) journal))
