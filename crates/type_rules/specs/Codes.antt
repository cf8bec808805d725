-- The codes of a row's operands, by lookup.
use Rattle.std.specs.Prelude.{ℕ, cond, List, [], ◌∷◌, eqb, Option, Some, None}
use Rattle.words.specs.Kind.{real, integer_literal, real_literal}
use Rattle.tables.specs.Cases.{case_of}
use Rattle.tables.specs.Family as family
use Rattle.tables.specs.Source as source
use Rattle.tables.specs.Lookup.{lookup_region}
use Rattle.tables.specs.Rows.{region_kind}
use Rattle.tables.specs.declared.rows.Instruction.{Instruction}
use Rattle.type_rules.specs.Numbers.{absent}
use Rattle.type_rules.specs.Rule.{not_real, rule_of}
use Rattle.type_rules.specs.Judgement.{Judgement}

-- A region's kind as a code. The loader leaves the kinds 0 to 3 alone; a word above them counts as REAL, so that it is no other code.
unfoldable pub kind_code : ℕ → ℕ
kind_code kind = cond (not_real kind) kind real

abbrev pub found_code : List ℕ → Option ℕ → ℕ
found_code regions (Some k) = kind_code (region_kind regions k)
found_code regions None = absent

-- a name's code: its region's kind, or that it is undeclared
unfoldable pub code_of : List ℕ → ℕ → ℕ
code_of regions name = found_code regions (lookup_region regions name)

abbrev pub first_code : List ℕ → Instruction → ℕ
first_code regions x = code_of regions x.first_name

abbrev pub second_code : List ℕ → Instruction → ℕ
second_code regions x = code_of regions x.second_name

-- of a source that is a reference
abbrev pub reference_code : List ℕ → Instruction → ℕ
reference_code regions x = code_of regions x.source_first

-- "source form (0 integer literal, 1 real literal, 2 reference, ..)"
unfoldable pub operand_code : List ℕ → Instruction → ℕ
operand_code regions x =
    case_of x.source_form
    ((source.integer_literal, integer_literal) ∷ (source.real_literal, real_literal) ∷ [])
    (reference_code regions x)

-- "6 load (.. source = offset reference)"
unfoldable pub source_code : List ℕ → Instruction → ℕ
source_code regions x = cond (eqb x.family family.load) (reference_code regions x) (operand_code regions x)

-- the rule of a row that is no frame, at its operands' codes
unfoldable pub row_rule : List ℕ → Instruction → Judgement
row_rule regions x = rule_of x.family x.operator (first_code regions x) (second_code regions x) (source_code regions x)
