-- A jump's condition: its step reads it, and it decides where the row leads (control_flow/specs/Next.antt).
use Rattle.std.specs.Prelude.{ℕ, true, List, ◌≡◌, Ok}
use Rattle.tables.specs.declared.rows.Instruction.{Instruction}
use Rattle.journal.specs.declared.cells.Write.{Write}
use Rattle.operands.specs.Cells.{condition_of}
use Rattle.control_flow.specs.Condition.{has_condition}
use Rattle.control_flow.specs.Next.{condition_cell, condition_word}
use Rattle.machine.specs.Outcome.{plain_outcome}

-- The word that decides a jump is the one that its step has read as a BIT's ("in forward only a BIT cell there has a rule"). Proved in proofs/Condition.antt.
pub record ReadCondition (regions cells : List ℕ) (x : Instruction) : Type 0 where
  pub cell : ℕ
  pub found : condition_cell regions x ≡ Ok cell
  pub read : condition_of cells cell ≡ Ok (condition_word regions cells x)

abbrev pub ConditionRead : Type 0
ConditionRead =
    (regions cells : List ℕ) (x : Instruction) (reply : List ℕ) (ws : List Write) → has_condition x ≡ true
    → plain_outcome regions cells x reply ≡ Ok ws → ReadCondition regions cells x
