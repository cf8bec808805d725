-- 02, P5, CONVERT: which kinds have a rule, its result, and which declared kinds open passes. The quoted sentences are 02's.
use Rattle.std.specs.Option.{ok_or}
use Rattle.std.specs.Prelude.{ℕ, Bool, false, not, cond, ◌||◌, ◌&&◌, List, eqb, Option, Some, None, Ok}
use Rattle.words.specs.Kind.{integer, real}
use Rattle.words.specs.Convert.{integer_to_real, real_to_integer}
use Rattle.tables.specs.Family as family
use Rattle.tables.specs.First.{every}
use Rattle.tables.specs.Lookup.{lookup_region}
use Rattle.tables.specs.Outcome.{Outcome}
use Rattle.tables.specs.Refusal.{outside_integer}
use Rattle.tables.specs.Rows.{region_kind, instruction_rows, instruction_at}
use Rattle.tables.specs.declared.rows.Instruction.{Instruction}

-- ---- the step

-- "its source a reference whose cell's kind picks the direction; BIT or OCTET there has no rule"
abbrev pub convert_kinds : ℕ → Bool
convert_kinds source = eqb source integer || eqb source real

-- "CONVERT between INTEGER and REAL": the kind that the result has
abbrev pub converted_kind : ℕ → ℕ
converted_kind source = cond (eqb source real) integer real

-- "with 23 .. a NaN, an infinity or a value outside -2^63 to 2^63-1 after the fraction is dropped"
abbrev pub converted_outcome : Option ℕ → Outcome ℕ
converted_outcome c = ok_or c outside_integer

unfoldable pub convert_result : ℕ → ℕ → Outcome ℕ
convert_result source word = cond (eqb source real) (converted_outcome (real_to_integer word)) (Ok (integer_to_real word))

-- ---- "It refuses with 22, in open after 21, another pair of kinds or an undeclared name"

-- destination and source: REAL of INTEGER, INTEGER of REAL
abbrev pub convertible : ℕ → ℕ → Bool
convertible destination source = (eqb destination real && eqb source integer) || (eqb destination integer && eqb source real)

abbrev pub both_convertible : List ℕ → Option ℕ → Option ℕ → Bool
both_convertible regions (Some d) (Some s) = convertible (region_kind regions d) (region_kind regions s)
both_convertible regions (Some d) None = false
both_convertible regions None s = false

abbrev pub is_convert : Instruction → Bool
is_convert x = eqb x.family family.convert

-- of one row
unfoldable pub conversion_fits : List ℕ → Instruction → Bool
conversion_fits regions x = not (is_convert x) || both_convertible regions (lookup_region regions x.first_name) (lookup_region regions x.source_first)

-- and of the program
unfoldable pub conversions_fit : List ℕ → List ℕ → Bool
conversions_fit regions instructions = every (λ k. conversion_fits regions (instruction_at instructions k)) (instruction_rows instructions)
