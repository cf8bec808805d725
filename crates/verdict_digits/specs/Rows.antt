-- The rows with which the program asks the check: one of each form, in the chart's order. That each is at its place is in proofs/RowLaws.antt.
use Rattle.std.specs.Prelude.{ℕ, ◌+◌, ◌-◌, ◌/◌, ◌%◌, ◌<◌, cond, List, [], ◌∷◌, eqb, ltb, length}
use Rattle.words.specs.Kind.{bit, integer, octet, real}
use Rattle.tables.specs.Family as family
use Rattle.tables.specs.First.{first}
use Rattle.tables.specs.Source as source
use Rattle.tables.specs.declared.rows.Instruction.{Instruction}
use Rattle.verdict_table.specs.Forms.{names, each}
use Rattle.verdict_table.specs.Place.{block_of}
use Rattle.verdict_table.specs.declared.blocks.Block.{Block}

-- each operand's names: one that is not declared, and after it one of each kind
abbrev pub first_names : ℕ
first_names = 0

abbrev pub second_names : ℕ
second_names = 5

abbrev pub source_names : ℕ
source_names = 10

abbrev pub one_of_each_kind : ℕ → List ℕ
one_of_each_kind undeclared = each (bit ∷ integer ∷ octet ∷ real ∷ []) (λ kind. (undeclared + 1 + kind) ∷ kind ∷ 1 ∷ [])

unfoldable pub regions : List ℕ
regions = each (first_names ∷ second_names ∷ source_names ∷ []) one_of_each_kind

-- the family whose block a place is in
unfoldable pub family_at : ℕ → ℕ
family_at place = first (λ f. ltb place (block_of (f + 1)).start) (λ f. f) family.store 0 family.store

-- an operand's names follow the one that is not declared; where one code stands for all, the word is unused
unfoldable pub operand_word : ℕ → ℕ → ℕ → ℕ
operand_word choices undeclared which = cond (eqb choices 1) 0 (undeclared + which)

unfoldable pub source_form : ℕ → ℕ → ℕ
source_form choices which =
    cond (eqb choices 1) source.none
    (cond (ltb which (length names)) source.reference (cond (eqb which (length names)) source.integer_literal source.real_literal))

-- none of its numbers is 0
pub record Divides (block : Block) : Type 0 where
  pub seconds : 0 < block.seconds
  pub sources : 0 < block.sources
  pub operators : 0 < block.operators

unfoldable pub row_in : ℕ → Block → ℕ → Instruction
unfolding operand_word source_form
row_in family block place =
    let operands = place / block.operators in
    let named = operands / block.sources in
    let which = operands % block.sources in
    record {
      family = family;
      operator = place % block.operators;
      first_name = operand_word (length names) first_names (named / block.seconds);
      first_index = 0;
      second_name = operand_word block.seconds second_names (named % block.seconds);
      second_index = 0;
      source_form = source_form block.sources which;
      source_first = operand_word block.sources source_names which;
      source_second = 0;
    }

unfoldable pub row_at : ℕ → Instruction
unfolding family_at row_in
row_at place =
    let f = family_at place in
    row_in f (block_of f) (place - (block_of f).start)
