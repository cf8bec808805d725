-- 2, of the instructions: the words that each family allows. "Unused words are 0."
use Rattle.std.specs.Prelude.{ℕ, ◌+◌, Bool, true, false, ◌&&◌, ◌||◌, List, [], ◌∷◌, eqb, ltb}
use Rattle.tables.specs.First.{every}
use Rattle.tables.specs.Cases.{case_of}
use Rattle.tables.specs.Family as family
use Rattle.tables.specs.Operator as operator
use Rattle.tables.specs.Source as source
use Rattle.tables.specs.Rows.{instruction_rows, instruction_at}
use Rattle.tables.specs.Tree.{inside, one_tree}
use Rattle.tables.specs.declared.rows.Instruction.{Instruction}

-- operators are numbered from 0: how many there are up to the last
abbrev pub up_to : ℕ → ℕ
up_to last = last + 1

-- where the word is unused, only 0
abbrev pub unused : ℕ
unused = 0

-- "Families, operators numbered from 0 in the Rust's order": how many each family has, by its last; 02, P5: family 16 has none
abbrev pub operators_by_family : List (ℕ × ℕ)
operators_by_family =
    (family.arithmetic, up_to operator.multiply)
    ∷ (family.comparison, up_to operator.less_than)
    ∷ (family.binary_logic, up_to operator.ashr)
    ∷ (family.unary, up_to operator.not)
    ∷ (family.move, up_to unused)
    ∷ (family.exchange, up_to unused)
    ∷ (family.load, up_to unused)
    ∷ (family.store, up_to unused)
    ∷ (family.frame, up_to operator.shift_phase)
    ∷ (family.call, up_to unused)
    ∷ (family.other, up_to operator.any_other)
    ∷ (family.convert, up_to unused)
    ∷ []

-- 02, P4: families 11 to 15, of control flow, have none
abbrev pub operators_by_flow : List (ℕ × ℕ)
operators_by_flow =
    (family.jump, up_to unused)
    ∷ (family.jump_when, up_to unused)
    ∷ (family.jump_unless, up_to unused)
    ∷ (family.label, up_to unused)
    ∷ (family.halt, up_to unused)
    ∷ []

-- none past the last family, so that such a number is refused
unfoldable pub flow_operators_of : ℕ → ℕ
unfolding case_of
flow_operators_of family = case_of family operators_by_flow 0

unfoldable pub operators_of : ℕ → ℕ
unfolding case_of flow_operators_of
operators_of family = case_of family operators_by_family (flow_operators_of family)

-- "source form (0 integer literal, 1 real literal, 2 reference, 3 none: always and only in families 3, 5, 8, 9, 10)";
-- "2 binary logic (no real literal)"; "6 load (.. source = offset reference)"; 02, P5: "its source a reference"
abbrev pub forms_by_family : ℕ → List (ℕ × Bool)
forms_by_family form =
    let any = ltb form source.none in
    let none = eqb form source.none in
    (family.arithmetic, any)
    ∷ (family.comparison, any)
    ∷ (family.binary_logic, eqb form source.integer_literal || eqb form source.reference)
    ∷ (family.unary, none)
    ∷ (family.move, any)
    ∷ (family.exchange, none)
    ∷ (family.load, eqb form source.reference)
    ∷ (family.store, any)
    ∷ (family.frame, none)
    ∷ (family.call, none)
    ∷ (family.other, none)
    ∷ (family.convert, eqb form source.reference)
    ∷ []

-- 02, P4: "source form 3"
unfoldable pub form_allowed : ℕ → ℕ → Bool
unfolding case_of
form_allowed family form = case_of family (forms_by_family form) (eqb form source.none)

-- "source's two words (literal bits and 0, or name and index)"
abbrev pub source_by_form : Instruction → List (ℕ × Bool)
source_by_form x =
    let literal = eqb x.source_second 0 in
    (source.integer_literal, literal)
    ∷ (source.real_literal, literal)
    ∷ (source.reference, true)
    ∷ (source.none, eqb x.source_first 0 && eqb x.source_second 0)
    ∷ []

unfoldable pub source_allowed : Instruction → Bool
unfolding case_of
source_allowed x = case_of x.source_form (source_by_form x) false

-- the first and the second name and index. "A region operand has index 0" (load's second, store's first).
-- "8 frame: .. words 3 and 4 (counting from 1) are first node and node count, exactly one tree"; "9 call: words 3 to 5 are extern name, first argument, count"
-- 02, P5: "its first name and index the destination"
abbrev pub operand_words_by_family : List ℕ → ℕ → Instruction → List (ℕ × Bool)
operand_words_by_family nodes arguments x =
    let second-unused = eqb x.second_name 0 && eqb x.second_index 0 in
    (family.arithmetic, second-unused)
    ∷ (family.comparison, true)
    ∷ (family.binary_logic, second-unused)
    ∷ (family.unary, second-unused)
    ∷ (family.move, second-unused)
    ∷ (family.exchange, true)
    ∷ (family.load, eqb x.second_index 0)
    ∷ (family.store, eqb x.first_index 0)
    ∷ (family.frame, second-unused && one_tree nodes x.first_name x.first_index)
    ∷ (family.call, eqb x.second_index 0 && inside x.first_index x.second_name arguments)
    ∷ (family.other, eqb x.first_name 0 && (eqb x.first_index 0 && second-unused))
    ∷ (family.convert, second-unused)
    ∷ []

-- 02, P4: "First name and index are the condition, second name the label"
abbrev pub operand_words_by_flow : Instruction → List (ℕ × Bool)
operand_words_by_flow x =
    let no_condition = eqb x.first_name 0 && eqb x.first_index 0 in
    let no_index = eqb x.second_index 0 in
    (family.jump, no_condition && no_index)
    ∷ (family.jump_when, no_index)
    ∷ (family.jump_unless, no_index)
    ∷ (family.label, no_condition && no_index)
    ∷ (family.halt, no_condition && (eqb x.second_name 0 && no_index))
    ∷ []

unfoldable pub flow_operands_allowed : Instruction → Bool
unfolding case_of
flow_operands_allowed x = case_of x.family (operand_words_by_flow x) false

unfoldable pub operands_allowed : List ℕ → ℕ → Instruction → Bool
unfolding case_of flow_operands_allowed
operands_allowed nodes arguments x = case_of x.family (operand_words_by_family nodes arguments x) (flow_operands_allowed x)

unfoldable pub instruction_allowed : List ℕ → ℕ → Instruction → Bool
instruction_allowed nodes arguments x =
    ltb x.operator (operators_of x.family)
    && (form_allowed x.family x.source_form
    && (source_allowed x && operands_allowed nodes arguments x))

-- of families 11 to 15
unfoldable pub flow_allowed : Instruction → Bool
flow_allowed x = ltb x.operator (flow_operators_of x.family) && (eqb x.source_form source.none && (source_allowed x && flow_operands_allowed x))

unfoldable pub instructions_allowed : List ℕ → ℕ → List ℕ → Bool
instructions_allowed nodes arguments xs = every (λ k. instruction_allowed nodes arguments (instruction_at xs k)) (instruction_rows xs)
