-- 02, P4: "A taken jump goes to its LABEL's row (WHEN on 1, UNLESS on 0), HALT to the end." Where a row leads, by the cells before its step.
use Rattle.std.specs.Prelude.{ℕ, ◌+◌, cond, List, [], ◌∷◌, eqb, Ok, Err}
use Rattle.tables.specs.Cases.{case_of}
use Rattle.tables.specs.Family as family
use Rattle.tables.specs.Lookup.{lookup_region}
use Rattle.tables.specs.Outcome.{Outcome, ◌>>=◌}
use Rattle.tables.specs.Rows.{instruction_rows, instruction_at}
use Rattle.tables.specs.declared.rows.Instruction.{Instruction}
use Rattle.labels.specs.Labels.{label_at, label_row}
use Rattle.operands.specs.Address.{found_region, indexed_of}
use Rattle.operands.specs.Cells.{cell_word}

-- "First name and index are the condition": its cell
unfoldable pub condition_cell : List ℕ → Instruction → Outcome ℕ
condition_cell regions x = do
  r ← found_region (lookup_region regions x.first_name)
  indexed_of regions r x.first_index

-- its word. A row whose condition has no cell is refused, so the second line leads nowhere.
abbrev pub word_on : List ℕ → Outcome ℕ → ℕ
word_on cells (Ok c) = cell_word cells c
word_on cells (Err number) = 0

abbrev pub condition_word : List ℕ → List ℕ → Instruction → ℕ
condition_word regions cells x = word_on cells (condition_cell regions x)

-- "(WHEN on 1, UNLESS on 0)": a jump on that word of its condition, to row `target`; not taken, it leads to the next row
abbrev pub jump_on : ℕ → ℕ → ℕ → ℕ → ℕ
jump_on on word target row = cond (eqb word on) target (row + 1)

-- the rows that lead elsewhere than to the next, by their family
abbrev pub leads : List ℕ → List ℕ → List ℕ → ℕ → List (ℕ × ℕ)
leads regions instructions cells row =
    let target = label_row instructions (label_at instructions row) in
    let word = condition_word regions cells (instruction_at instructions row) in
    (family.jump, target)
    ∷ (family.jump_when, jump_on 1 word target row)
    ∷ (family.jump_unless, jump_on 0 word target row)
    ∷ (family.halt, instruction_rows instructions)
    ∷ []

-- every other row, LABEL too, leads to the next one
unfoldable pub next_row : List ℕ → List ℕ → List ℕ → ℕ → ℕ
next_row regions instructions cells row = case_of (instruction_at instructions row).family (leads regions instructions cells row) (row + 1)
