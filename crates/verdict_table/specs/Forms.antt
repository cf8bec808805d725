-- 02, P7, the wall chart of verdicts: "By family the forms are ..". A row's form is what its verdict turns on; here are all, in 02's order.
use Rattle.std.specs.Prelude.{ℕ, cond, List, [], ◌∷◌, ◌++◌, eqb}
use Rattle.words.specs.Kind.{bit, integer, octet, real, integer_literal, real_literal}
use Rattle.tables.specs.Family as family
use Rattle.tables.specs.Names.{names_second}
use Rattle.tables.specs.Operator as operator
use Rattle.tables.specs.Source as source
use Rattle.tables.specs.declared.rows.Instruction.{Instruction}
use Rattle.word_rules.specs.Instruction.{form_allowed}
use Rattle.type_rules.specs.Numbers.{absent}
use Rattle.type_rules.specs.Codes.{first_code, second_code, source_code}

-- family, operator, and the operands' codes
pub record Form : Type 0 where
  pub family : ℕ
  pub operator : ℕ
  pub first : ℕ
  pub second : ℕ
  pub source : ℕ

abbrev pub form_of : List ℕ → Instruction → Form
form_of regions x =
    record {
      family = x.family;
      operator = x.operator;
      first = first_code regions x;
      second = second_code regions x;
      source = source_code regions x;
    }

abbrev pub families : List ℕ
families =
    family.arithmetic
    ∷ family.comparison
    ∷ family.binary_logic
    ∷ family.unary
    ∷ family.move
    ∷ family.exchange
    ∷ family.load
    ∷ family.store
    ∷ []

-- 02: "Each operand, a separate name, is undeclared, one of four kinds ..", in this order: "undeclared, BIT, INTEGER, OCTET, REAL, .."
abbrev pub names : List ℕ
names = absent ∷ bit ∷ integer ∷ octet ∷ real ∷ []

-- of an operand that a family has not, one code stands for all
abbrev pub unused : List ℕ
unused = absent ∷ []

unfoldable pub seconds_of : ℕ → List ℕ
unfolding names_second
seconds_of f = cond (names_second f) names unused

-- 02: "or an allowed literal", after the names: ".., integer literal, real literal"
unfoldable pub sources_of : ℕ → List ℕ
unfolding form_allowed
sources_of f =
    cond (form_allowed f source.none) unused
    (names
    ++ cond (form_allowed f source.integer_literal) (integer_literal ∷ []) []
    ++ cond (form_allowed f source.real_literal) (real_literal ∷ []) [])

-- 02: "operators share a form, except NEG and NOT": a family's first stands for all
unfoldable pub operators_of : ℕ → List ℕ
operators_of f = cond (eqb f family.unary) (operator.neg ∷ operator.not ∷ []) (0 ∷ [])

-- what `make` gives for each of a list, one after the other
abbrev pub each : {A B : Type 0} → List A → (A → List B) → List B
each [] make = []
each (x ∷ xs) make = make x ++ each xs make

-- 02: "Entries run by family, then by first, second and source operand, the last fastest ..; in unary the operand goes before NEG, NOT."
unfoldable pub forms : List Form
unfolding seconds_of sources_of operators_of
forms =
    each families
    (λ f.
    each names
    (λ a.
    each (seconds_of f)
    (λ b.
    each (sources_of f)
    (λ c. each (operators_of f) (λ o. record { family = f; operator = o; first = a; second = b; source = c } ∷ [])))))
