-- 01, "Type check", of a row and of a program: "the first bad row is reported".
use Rattle.std.specs.Prelude.{ℕ, ◌+◌, ◌<◌, ◌≤◌, Bool, true, false, cond, List, [], ◌∷◌, ◌≡◌, eqb, Result, Ok, Err}
use Rattle.tables.specs.First.{first}
use Rattle.tables.specs.Family as family
use Rattle.tables.specs.Rows.{node_rows, instruction_rows, instruction_at}
use Rattle.tables.specs.declared.rows.Instruction.{Instruction}
use Rattle.type_rules.specs.Judgement.{Judgement, verdict_at}
use Rattle.type_rules.specs.Codes.{row_rule}
use Rattle.type_check.specs.Frame.{frame_rule}
use Rattle.type_rules.specs.declared.error.TypeError.{TypeError}

-- a frame by its nodes, every other row by its operands' codes
unfoldable pub judgement_of : List ℕ → List ℕ → Instruction → Judgement
judgement_of regions nodes x = cond (eqb x.family family.frame) (frame_rule regions nodes x) (row_rule regions x)

unfoldable pub verdict_of : List ℕ → List ℕ → ℕ → Instruction → Result (Unit {0}) TypeError
verdict_of regions nodes row x = verdict_at row (judgement_of regions nodes x)

abbrev pub is_error : Result (Unit {0}) TypeError → Bool
is_error (Ok _) = false
is_error (Err e) = true

abbrev pub row_verdict : List ℕ → List ℕ → List ℕ → ℕ → Result (Unit {0}) TypeError
row_verdict regions nodes instructions row = verdict_of regions nodes row (instruction_at instructions row)

-- of the n rows from a row on
abbrev pub check_from : List ℕ → List ℕ → List ℕ → ℕ → ℕ → Result (Unit {0}) TypeError
check_from regions nodes instructions row n =
    first (λ k. is_error (row_verdict regions nodes instructions k)) (λ k. row_verdict regions nodes instructions k) (Ok tt) row n

-- "the first bad row is reported"; rows count from 0
unfoldable pub check_of : List ℕ → List ℕ → List ℕ → Result (Unit {0}) TypeError
check_of regions nodes instructions = check_from regions nodes instructions 0 (instruction_rows instructions)

-- "A type error holds kind .., row, spot of the named operand .., spot of `src` or 0, and two codes": its six words
abbrev pub error_words : TypeError → List ℕ
error_words e = e.kind ∷ e.row ∷ e.spot ∷ e.src_spot ∷ e.first_code ∷ e.second_code ∷ []

-- a frame's range lies in the node table, as the loader's 2 leaves it
pub record FrameInside (nodes : List ℕ) (x : Instruction) : Type 0 where
  pub inside : x.family ≡ family.frame → x.first_name + x.first_index ≤ node_rows nodes

pub record FramesInside (nodes instructions : List ℕ) : Type 0 where
  pub row : (k : ℕ) → k < instruction_rows instructions → FrameInside nodes (instruction_at instructions k)
