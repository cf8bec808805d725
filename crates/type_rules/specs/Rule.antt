-- 01, "Type check": "The verdict turns on family, operator and operand kinds, in this order of looks".
-- The rule of a row as a function of its family, its operator and its operands' codes:
-- a declared name's kind, a literal's code, or `absent` for an undeclared name.
use Rattle.std.specs.Prelude.{ℕ, Bool, not, cond, ◌||◌, ◌&&◌, List, [], ◌∷◌, eqb, ltb}
use Rattle.words.specs.Kind.{bit, integer, octet, real, integer_literal, real_literal}
use Rattle.tables.specs.Cases.{case_of}
use Rattle.tables.specs.Family as family
use Rattle.tables.specs.Operator as operator
use Rattle.type_rules.specs.Numbers.{absent, real_or_integral, integral, bit_only, first_spot, second_spot, source_spot}
use Rattle.type_rules.specs.Judgement.{Judgement, pass, undefined_memory_reference, data_type_mismatch, operator_operand_mismatch, judge}

abbrev pub undeclared : ℕ → Bool
undeclared code = eqb code absent

abbrev pub bit_or_octet : ℕ → Bool
bit_or_octet code = eqb code bit || eqb code octet

-- BIT, INTEGER or OCTET
abbrev pub not_real : ℕ → Bool
not_real code = ltb code real

-- "source declared; source BIT or OCTET is 4; kinds differ is 2"
unfoldable pub arithmetic_source : ℕ → ℕ → Judgement
arithmetic_source destination source =
    judge
    ((undeclared source, undefined_memory_reference source_spot)
    ∷ (bit_or_octet source, operator_operand_mismatch source_spot source real_or_integral)
    ∷ (not (eqb destination source), data_type_mismatch first_spot source_spot destination source)
    ∷ [])
    pass

-- "Arithmetic: destination declared; integer literal into INTEGER or real literal into REAL passes; integer literal into REAL,
-- or real literal elsewhere, is error 2; destination BIT or OCTET is 4; .."
unfoldable pub arithmetic_rule : ℕ → ℕ → Judgement
arithmetic_rule destination source =
    judge
    ((undeclared destination, undefined_memory_reference first_spot)
    ∷ (eqb source integer_literal && eqb destination integer, pass)
    ∷ (eqb source real_literal && eqb destination real, pass)
    ∷ ((eqb source integer_literal && eqb destination real) || eqb source real_literal, data_type_mismatch first_spot source_spot destination source)
    ∷ (bit_or_octet destination, operator_operand_mismatch first_spot destination real_or_integral)
    ∷ [])
    (arithmetic_source destination source)

-- against a kind: "integer literal into REAL, real literal elsewhere"; a reference of another kind
abbrev pub misfits : ℕ → ℕ → Bool
misfits kind source =
    cond (eqb source integer_literal) (not (not_real kind)) (cond (eqb source real_literal) (not_real kind) (not (eqb kind source)))

-- "integer literal into REAL, real literal elsewhere is 2; source declared, same kind or 2" (a literal counts as declared)
unfoldable pub source_rule : ℕ → ℕ → ℕ → Judgement
source_rule spot kind source =
    judge
    ((undeclared source, undefined_memory_reference source_spot) ∷ (misfits kind source, data_type_mismatch spot source_spot kind source) ∷ [])
    pass

-- "Comparison: destination, then lhs declared; destination not BIT is 4; integer literal against REAL, real literal against another,
-- is 2; rhs reference declared, same kind or 2."
unfoldable pub comparison_rule : ℕ → ℕ → ℕ → Judgement
comparison_rule destination lhs rhs =
    judge
    ((undeclared destination, undefined_memory_reference first_spot)
    ∷ (undeclared lhs, undefined_memory_reference second_spot)
    ∷ (not (eqb destination bit), operator_operand_mismatch first_spot destination bit_only)
    ∷ [])
    (source_rule second_spot lhs rhs)

-- "source: declared, not REAL (4)"; of the literals logic has the integer alone
unfoldable pub logic_source : ℕ → Judgement
logic_source source =
    judge
    ((undeclared source, undefined_memory_reference source_spot)
    ∷ (not (not_real source || eqb source integer_literal), operator_operand_mismatch source_spot source integral)
    ∷ [])
    pass

-- "Binary logic: destination, then source: declared, not REAL (4)."
unfoldable pub logic_rule : ℕ → ℕ → Judgement
logic_rule destination source =
    judge
    ((undeclared destination, undefined_memory_reference first_spot)
    ∷ (not (not_real destination), operator_operand_mismatch first_spot destination integral)
    ∷ [])
    (logic_source source)

-- else NOT
abbrev pub is_neg : ℕ → Bool
is_neg which = eqb which operator.neg

-- "Unary: declared; NOT of REAL, NEG of BIT or OCTET is 4."
unfoldable pub unary_rule : ℕ → ℕ → Judgement
unary_rule operator operand =
    judge
    ((undeclared operand, undefined_memory_reference first_spot)
    ∷ (not (is_neg operator) && not (not_real operand), operator_operand_mismatch first_spot operand integral)
    ∷ (is_neg operator && bit_or_octet operand, operator_operand_mismatch first_spot operand real_or_integral)
    ∷ [])
    pass

-- "Move: destination declared; integer literal into REAL, real literal elsewhere is 2; source declared, same kind or 2."
unfoldable pub move_rule : ℕ → ℕ → Judgement
move_rule destination source =
    judge ((undeclared destination, undefined_memory_reference first_spot) ∷ []) (source_rule first_spot destination source)

-- "Exchange: both declared, same kind or 2."
unfoldable pub exchange_rule : ℕ → ℕ → Judgement
exchange_rule left right =
    judge
    ((undeclared left, undefined_memory_reference first_spot)
    ∷ (undeclared right, undefined_memory_reference second_spot)
    ∷ (not (eqb left right), data_type_mismatch first_spot second_spot left right)
    ∷ [])
    pass

-- ".., offset declared; offset not INTEGER is 4; kinds differ is 2"
unfoldable pub load_offset : ℕ → ℕ → ℕ → Judgement
load_offset destination source offset =
    judge
    ((undeclared offset, undefined_memory_reference source_spot)
    ∷ (not (eqb offset integer), operator_operand_mismatch source_spot offset integral)
    ∷ (not (eqb destination source), data_type_mismatch first_spot second_spot destination source)
    ∷ [])
    pass

-- "Load: destination, source, .."
unfoldable pub load_rule : ℕ → ℕ → ℕ → Judgement
load_rule destination source offset =
    judge
    ((undeclared destination, undefined_memory_reference first_spot)
    ∷ (undeclared source, undefined_memory_reference second_spot)
    ∷ [])
    (load_offset destination source offset)

-- 02, P1: "An undeclared source is now error 1 at spot 3"; 01: "kinds as for move, or 2 with source as `dst`"
unfoldable pub store_source : ℕ → ℕ → Judgement
store_source destination source =
    judge
    ((undeclared source, undefined_memory_reference source_spot)
    ∷ (misfits destination source, data_type_mismatch source_spot first_spot source destination)
    ∷ [])
    pass

-- "Store: destination, offset declared; offset not INTEGER is 4; .."
unfoldable pub store_rule : ℕ → ℕ → ℕ → Judgement
store_rule destination offset source =
    judge
    ((undeclared destination, undefined_memory_reference first_spot)
    ∷ (undeclared offset, undefined_memory_reference second_spot)
    ∷ (not (eqb offset integer), operator_operand_mismatch second_spot offset integral)
    ∷ [])
    (store_source destination source)

abbrev pub rules : ℕ → ℕ → ℕ → ℕ → List (ℕ × Judgement)
rules operator first second source =
    (family.arithmetic, arithmetic_rule first source)
    ∷ (family.comparison, comparison_rule first second source)
    ∷ (family.binary_logic, logic_rule first source)
    ∷ (family.unary, unary_rule operator first)
    ∷ (family.move, move_rule first source)
    ∷ (family.exchange, exchange_rule first second)
    ∷ (family.load, load_rule first second source)
    ∷ (family.store, store_rule first second source)
    ∷ []

-- "Families 9 and 10 pass."; so do 11 to 16. 02, P4: "The Rust's `type_check` doesn't look at the condition"; nor does it look at CONVERT. A frame is judged by its nodes (Frame.antt).
unfoldable pub rule_of : ℕ → ℕ → ℕ → ℕ → ℕ → Judgement
rule_of family operator first second source = case_of family (rules operator first second source) pass
