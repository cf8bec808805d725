-- What holds of every row's outcome on cells of the declared kinds, and what of open's acceptance it rests on.
use Rattle.std.specs.Prelude.{ℕ, ◌^◌, ◌<◌, true, List, ◌≡◌, get_or, Ok, Err}
use Rattle.tables.specs.Refusal.{journal_full, no_rule}
use Rattle.tables.specs.Tables.{Tables}
use Rattle.tables.specs.Rows.{instruction_rows, instruction_at}
use Rattle.tables.specs.Cells.{cell_count}
use Rattle.loader.specs.Load.{load_look}
use Rattle.tables.specs.declared.rows.Instruction.{Instruction}
use Rattle.type_check.specs.Check.{check_of}
use Rattle.journal.specs.declared.cells.Write as journal
use Rattle.journal.specs.Each.{Each}
use Rattle.operands.specs.Kinds.{zeros}
use Rattle.operands.specs.Reach.{Laid}
use Rattle.operands.specs.Typed.{Fits, Typed}
use Rattle.operators.specs.Convert.{conversions_fit}
use Rattle.machine.specs.Outcome.{outcome_at}
use Rattle.control_flow.specs.Condition.{conditions_fit}
use Rattle.soundness.specs.WriteSet.{MayChange}

-- ---- what it rests on

-- Of open's acceptance: the loader's looks (1, 2, 3), 10, the type check (5), the conditions (21) and the conversions (22). That every CALL resolves (6, 7, 8) and that the labels fit (20) is not used:
-- a row is refused by these numbers otherwise.
pub record Checked (t : Tables) : Type 0 where
  pub loads : load_look t ≡ Ok tt
  pub passes : check_of t.regions t.nodes t.instructions ≡ Ok tt
  pub conditions : conditions_fit t.regions t.instructions ≡ true
  pub conversions : conversions_fit t.regions t.instructions ≡ true
  -- "at most 4,096 cells"
  pub laid : Laid t.regions
  -- "Tables, in 64-bit words"
  pub words : (i : ℕ) → get_or t.instructions i 0 < 2 ^ 64

-- ---- writes

-- a write of a row: to a cell that is there, of its declared kind, and one that the row may change
pub record GoodWrite (t : Tables) (x : Instruction) (w : journal.Write) : Type 0 where
  pub there : w.cell < cell_count t.regions
  pub fits : Fits t.regions w
  pub allowed : MayChange t x w.cell

-- ---- the theorem's statement: the only facts about the step that the sequence theorem uses

pub record Sound (t : Tables) : Type 0 where
  pub starts : Typed t.regions (zeros t.regions)
  -- demand 3: "No call in it met an operand without a rule". 01: "To meet an operand without a rule is to be refused with 18."
  pub ruled : (cells : List ℕ) (row : ℕ) (reply : List ℕ) → Typed t.regions cells → row < instruction_rows t.instructions
      → outcome_at t cells row reply ≡ Err no_rule → ⊥
  -- "13 journal full" is a look of the session, no row's own
  pub journal_apart : (cells : List ℕ) (row : ℕ) (reply : List ℕ) → Typed t.regions cells → row < instruction_rows t.instructions
      → outcome_at t cells row reply ≡ Err journal_full → ⊥
  pub good : (cells : List ℕ) (row : ℕ) (reply : List ℕ) (ws : List journal.Write) → Typed t.regions cells → row < instruction_rows t.instructions
      → outcome_at t cells row reply ≡ Ok ws → Each (GoodWrite t (instruction_at t.instructions row)) ws
