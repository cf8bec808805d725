-- Where a row leads: the word of its condition as it is read, and that the next row is a row or the end. Assumes nothing.
use Rattle.std.proofs.Common.{Some, None, Ok, Err}
use Prim.Native.Nat.{ℕ, ◌+◌, ◌<◌, ◌≤◌}
use mathlib.Core.Bool.{Bool, true, false, cond, ◌||◌}
use mathlib.Core.List.{List, [], ◌∷◌}
use mathlib.Core.Path.{◌≡◌, refl, sym}
use native.Mathlib.Omega.{arith}
use lib.Dec.{eqb}
use Rattle.tables.specs.declared.refusal.Refusal.{Refusal}
use Rattle.tables.specs.Cases.{case_of}
use Rattle.tables.specs.Family as family
use Rattle.tables.specs.Lookup.{lookup_region}
use Rattle.tables.specs.Outcome.{◌>>=◌}
use Rattle.tables.specs.Rows.{instruction_rows, instruction_at}
use Rattle.tables.specs.declared.rows.Instruction.{Instruction}
use Rattle.tables.proofs.Cases.{by_key, past_keys}
use Rattle.tables.proofs.FirstLaws.{never}
use Rattle.labels.specs.Labels.{is_jump, label_at, label_row}
use Rattle.labels.proofs.LabelsLaws.{label_row-within}
use Rattle.operands.specs.Address.{indexed_of}
use Rattle.operands.specs.Cells.{cell_word}
use Rattle.control_flow.specs.Next.{condition_cell, condition_word, jump_on, leads, next_row}

-- ---- the condition's word, as it is looked up

module _ (regions cells : List ℕ) (x : Instruction) where
  pub word-undeclared : lookup_region regions x.first_name ≡ None → 0 ≡ condition_word regions cells x
  unfolding condition_cell ◌>>=◌
  word-undeclared e = rw e

  pub word_past : {r : ℕ} {n : Refusal} → lookup_region regions x.first_name ≡ Some r → indexed_of regions r x.first_index ≡ Err n → 0 ≡ condition_word regions cells x
  unfolding condition_cell ◌>>=◌
  word_past e h = rw (e, h)

  pub word-there : {r c : ℕ} → lookup_region regions x.first_name ≡ Some r → indexed_of regions r x.first_index ≡ Ok c → cell_word cells c ≡ condition_word regions cells x
  unfolding condition_cell ◌>>=◌
  word-there e h = rw (e, h)

-- ---- where it can lead

module _ (regions instructions cells : List ℕ) (row : ℕ) (there : row < instruction_rows instructions) where
  abbrev word : ℕ
  word = condition_word regions cells (instruction_at instructions row)

  abbrev rows : ℕ
  rows = instruction_rows instructions

  jump-within : (on : ℕ) → jump_on on word (label_row instructions (label_at instructions row)) row ≤ rows
  jump-within on = at (eqb word on)
    where
      at : (t : Bool) → cond t (label_row instructions (label_at instructions row)) (row + 1) ≤ rows
      at true = label_row-within instructions (label_at instructions row)
      at false = omega arith

  -- a row, or the end
  pub next-within : next_row regions instructions cells row ≤ rows
  unfolding next_row case_of
  next-within =
      by_key (λ f. case_of f (leads regions instructions cells row) (row + 1) ≤ rows)
      (
      (family.jump, label_row-within instructions (label_at instructions row))
      ∷ (family.jump_when, jump-within 1)
      ∷ (family.jump_unless, jump-within 0)
      ∷ (family.halt, omega arith)
      ∷ []
      )
      (instruction_at instructions row).family
      (λ past. rw (past_keys past (leads regions instructions cells row) (row + 1) refl) (omega arith))

  -- where it is no jump, past the row
  pub next_past : is_jump (instruction_at instructions row) ≡ false → row + 1 ≤ next_row regions instructions cells row
  unfolding next_row case_of
  next_past =
      by_key (λ f. (eqb f family.jump || (eqb f family.jump_when || eqb f family.jump_unless)) ≡ false → row + 1 ≤ case_of f (leads regions instructions cells row) (row + 1))
      (
      (family.jump, λ e. never (sym e))
      ∷ (family.jump_when, λ e. never (sym e))
      ∷ (family.jump_unless, λ e. never (sym e))
      ∷ (family.halt, λ e. omega arith)
      ∷ []
      )
      (instruction_at instructions row).family
      (λ past e. rw (past_keys past (leads regions instructions cells row) (row + 1) refl) (omega arith))
