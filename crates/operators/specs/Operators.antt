-- Which operand kinds have a rule, and the result of each operator. The loader lets no other operator pass: the rest of each definition by operators, 0 or false, is never reached.
use Rattle.std.specs.Option.{ok_or}
use Rattle.std.specs.Prelude.{ℕ, Bool, false, cond, ◌||◌, ◌&&◌, List, [], ◌∷◌, eqb, ltb, Option, Ok}
use Rattle.words.specs.Kind.{integer, real, integer_literal, real_literal, width_of}
use Rattle.words.specs.Integer as Z
use Rattle.reals.specs.Real as R
use Rattle.words.specs.Width.{not_at, and_at, ior_at, xor_at, shift_left, shift_right, shift_right_arithmetic}
use Rattle.tables.specs.Refusal.{zero_divisor, negative_shift_count}
use Rattle.tables.specs.Outcome.{Outcome}
use Rattle.tables.specs.Cases.{case_of}
use Rattle.tables.specs.Operator as operator

-- Kinds of sources are codes: "kinds 0 to 3, 4 integer literal, 5 real literal".

-- ---- arithmetic

-- "a literal counts as its own"
abbrev pub own_kind : ℕ → ℕ
own_kind s = cond (eqb s integer_literal) integer (cond (eqb s real_literal) real s)

-- "Arithmetic: equal kinds (a literal counts as its own), INTEGER or REAL." d and s are the codes of destination and source.
abbrev pub arithmetic_kinds : ℕ → ℕ → Bool
arithmetic_kinds d s = (eqb d integer || eqb d real) && eqb d (own_kind s)

-- "15 INTEGER zero divisor"
abbrev pub quotient_outcome : Option ℕ → Outcome ℕ
quotient_outcome q = ok_or q zero_divisor

abbrev pub integer_results : ℕ → ℕ → List (ℕ × Outcome ℕ)
integer_results a b =
    (operator.add, Ok (Z.integer_add a b))
    ∷ (operator.subtract, Ok (Z.integer_subtract a b))
    ∷ (operator.divide, quotient_outcome (Z.integer_divide a b))
    ∷ (operator.multiply, Ok (Z.integer_multiply a b))
    ∷ []

unfoldable pub integer_result : ℕ → ℕ → ℕ → Outcome ℕ
integer_result which a b = case_of which (integer_results a b) (Ok 0)

abbrev pub real_results : ℕ → ℕ → List (ℕ × ℕ)
real_results a b =
    (operator.add, R.real_add a b)
    ∷ (operator.subtract, R.real_subtract a b)
    ∷ (operator.divide, R.real_divide a b)
    ∷ (operator.multiply, R.real_multiply a b)
    ∷ []

unfoldable pub real_result : ℕ → ℕ → ℕ → ℕ
real_result which a b = case_of which (real_results a b) 0

unfoldable pub arithmetic_result : ℕ → ℕ → ℕ → ℕ → Outcome ℕ
arithmetic_result which kind a b = cond (eqb kind real) (Ok (real_result which a b)) (integer_result which a b)

-- ---- comparison

-- "Needs equal kinds, or a literal fit by the check": "integer literal against REAL, real literal against another, is 2". l and s are the codes of lhs and source.
abbrev pub comparison_kinds : ℕ → ℕ → Bool
comparison_kinds l s = cond (eqb s integer_literal) (ltb l real) (cond (eqb s real_literal) (eqb l real) (eqb l s))

-- BIT and OCTET words are numbers of 64 bits too
abbrev pub integer_tests : ℕ → ℕ → List (ℕ × Bool)
integer_tests a b =
    (operator.equal, Z.integer_equal a b)
    ∷ (operator.greater_than_or_equal, Z.integer_greater_than_or_equal a b)
    ∷ (operator.greater_than, Z.integer_greater_than a b)
    ∷ (operator.less_than_or_equal, Z.integer_less_than_or_equal a b)
    ∷ (operator.less_than, Z.integer_less_than a b)
    ∷ []

unfoldable pub integer_test : ℕ → ℕ → ℕ → Bool
integer_test which a b = case_of which (integer_tests a b) false

abbrev pub real_tests : ℕ → ℕ → List (ℕ × Bool)
real_tests a b =
    (operator.equal, R.real_equal a b)
    ∷ (operator.greater_than_or_equal, R.real_greater_than_or_equal a b)
    ∷ (operator.greater_than, R.real_greater_than a b)
    ∷ (operator.less_than_or_equal, R.real_less_than_or_equal a b)
    ∷ (operator.less_than, R.real_less_than a b)
    ∷ []

unfoldable pub real_test : ℕ → ℕ → ℕ → Bool
real_test which a b = case_of which (real_tests a b) false

unfoldable pub comparison_test : ℕ → ℕ → ℕ → ℕ → Bool
comparison_test which kind a b = cond (eqb kind real) (real_test which a b) (integer_test which a b)

-- "Comparison writes a BIT"
unfoldable pub comparison_result : ℕ → ℕ → ℕ → ℕ → ℕ
comparison_result which kind a b = cond (comparison_test which kind a b) 1 0

-- ---- binary logic

-- "Binary logic: destination, then source: declared, not REAL"; "2 binary logic (no real literal)"
abbrev pub logic_kinds : ℕ → ℕ → Bool
logic_kinds d s = ltb d real && (ltb s real || eqb s integer_literal)

-- "16 negative shift count"
abbrev pub shifted_outcome : Option ℕ → Outcome ℕ
shifted_outcome s = ok_or s negative_shift_count

-- w is "the destination's width". BIT and OCTET counts are never negative.
abbrev pub logic_results : ℕ → ℕ → ℕ → List (ℕ × Outcome ℕ)
logic_results w v s =
    (operator.and, Ok (and_at w v s))
    ∷ (operator.ior, Ok (ior_at w v s))
    ∷ (operator.xor, Ok (xor_at w v s))
    ∷ (operator.shl, shifted_outcome (shift_left w v s))
    ∷ (operator.shr, shifted_outcome (shift_right w v s))
    ∷ (operator.ashr, shifted_outcome (shift_right_arithmetic w v s))
    ∷ []

unfoldable pub logic_result : ℕ → ℕ → ℕ → ℕ → Outcome ℕ
logic_result which kind v s = case_of which (logic_results (width_of kind) v s) (Ok 0)

-- ---- unary

-- "NOT of REAL, NEG of BIT or OCTET is 4"
abbrev pub unary_kinds_by : ℕ → List (ℕ × Bool)
unary_kinds_by kind = (operator.neg, eqb kind integer || eqb kind real) ∷ (operator.not, ltb kind real) ∷ []

unfoldable pub unary_kinds : ℕ → ℕ → Bool
unary_kinds which kind = case_of which (unary_kinds_by kind) false

unfoldable pub negated : ℕ → ℕ → ℕ
negated kind v = cond (eqb kind real) (R.real_negate v) (Z.integer_negate v)

abbrev pub unary_results : ℕ → ℕ → List (ℕ × ℕ)
unary_results kind v = (operator.neg, negated kind v) ∷ (operator.not, not_at (width_of kind) v) ∷ []

unfoldable pub unary_result : ℕ → ℕ → ℕ → ℕ
unary_result which kind v = case_of which (unary_results kind v) 0
