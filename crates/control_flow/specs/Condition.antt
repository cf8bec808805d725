-- 02, P4: "The Rust's `type_check` doesn't look at the condition, so open does": "with 21 a condition undeclared or not BIT".
use Rattle.std.specs.Prelude.{ℕ, Bool, false, not, ◌||◌, List, eqb, Option, Some, None}
use Rattle.words.specs.Kind.{bit}
use Rattle.tables.specs.First.{every}
use Rattle.tables.specs.Family as family
use Rattle.tables.specs.Lookup.{lookup_region}
use Rattle.tables.specs.Rows.{region_kind, instruction_rows, instruction_at}
use Rattle.tables.specs.declared.rows.Instruction.{Instruction}

-- JUMP-WHEN and JUMP-UNLESS have a condition
abbrev pub has_condition : Instruction → Bool
has_condition x = eqb x.family family.jump_when || eqb x.family family.jump_unless

abbrev pub is_bit : List ℕ → Option ℕ → Bool
is_bit regions (Some r) = eqb (region_kind regions r) bit
is_bit regions None = false

-- no "condition undeclared or not BIT": of one row
unfoldable pub condition_fits : List ℕ → Instruction → Bool
condition_fits regions x = not (has_condition x) || is_bit regions (lookup_region regions x.first_name)

-- and of the program
unfoldable pub conditions_fit : List ℕ → List ℕ → Bool
conditions_fit regions instructions = every (λ k. condition_fits regions (instruction_at instructions k)) (instruction_rows instructions)
