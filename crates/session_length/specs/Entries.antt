-- 02, P2: "Count 1 entry for NOP and frame rows, 3 for EXCHANGE, 65 for CALL and 2 for every other row. Give the sum, even above 2,048".
use Rattle.std.specs.Prelude.{ℕ, List, [], ◌∷◌}
use Rattle.tables.specs.Cases.{case_of}
use Rattle.tables.specs.Family as family
use Rattle.tables.specs.Rows.{instruction_rows, instruction_at}
use Rattle.tables.specs.Sum.{sum_to}

-- Of family 10 a program that is accepted has NOP alone: any other instruction is 9.
abbrev pub entries_by_family : List (ℕ × ℕ)
entries_by_family =
    (family.exchange, 3)
    ∷ (family.frame, 1)
    ∷ (family.call, 65)
    ∷ (family.other, 1)
    ∷ []

-- what is counted for a row, by its family
unfoldable pub entries_for : ℕ → ℕ
entries_for f = case_of f entries_by_family 2

-- the sum over the rows before a row
unfoldable pub entries_before : List ℕ → ℕ → ℕ
entries_before instructions row = sum_to (λ k. entries_for (instruction_at instructions k).family) row

-- "the sum": over all rows
unfoldable pub journal_length : List ℕ → ℕ
journal_length instructions = entries_before instructions (instruction_rows instructions)
