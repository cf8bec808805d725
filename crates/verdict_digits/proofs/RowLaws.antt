-- Each row with which the program asks is one that the loader allows, and is at its place of the chart: one test computes it for all. Assumes nothing.
use Rattle.std.proofs.Common.{ℕ, ◌/◌, ◌%◌, ◌<◌, ◌≤◌, Bool, true, ◌&&◌, Result, [], eqb, ltb, leb, get_or, ◌≡◌, refl, ap, ◌∙◌, eqb-true, ltb-true, leb-true}
use native.Mathlib.Nat.{div-le_self, mod-le, lt_of_le_of_lt}
use Rattle.tables.specs.Family as family
use Rattle.tables.specs.First.{first, every}
use Rattle.tables.specs.Lookup.{lookup_among, lookup_of}
use Rattle.tables.specs.declared.rows.Instruction.{Instruction}
use Rattle.tables.proofs.FirstLaws.{every-row}
use Rattle.tables.proofs.Passed.{both}
use Rattle.word_rules.specs.Instruction as words
use Rattle.type_rules.specs.declared.error.TypeError.{TypeError}
use Rattle.type_rules.specs.Codes.{kind_code, code_of, operand_code, source_code}
use Rattle.type_check.specs.Check.{verdict_of}
use Rattle.verdict_table.specs.Forms.{form_of}
use Rattle.verdict_table.specs.Chart.{kind_of, form_count, chart}
use Rattle.verdict_table.specs.Place.{place_of, block_of}
use Rattle.verdict_table.specs.Claim.{Charted}
use Rattle.verdict_table.specs.declared.blocks.Block.{Block}
use Rattle.verdict_table.proofs.Rows.{rows}
use Rattle.verdict_digits.specs.Rows.{regions, Divides, family_at, row_at}

-- ---- parts of a place are below it

module _ (place operators : ℕ) (h : place < form_count) where
  operands-below : place / operators < form_count
  operands-below = lt_of_le_of_lt (div-le_self place operators) h

  pub source-below : (sources : ℕ) → place / operators % sources < form_count
  source-below sources = lt_of_le_of_lt (mod-le (place / operators) sources) operands-below

  module _ (sources : ℕ) where
    names-below : place / operators / sources < form_count
    names-below = lt_of_le_of_lt (div-le_self (place / operators) sources) operands-below

    pub first_below : (seconds : ℕ) → place / operators / sources / seconds < form_count
    first_below seconds = lt_of_le_of_lt (div-le_self (place / operators / sources) seconds) names-below

    pub second_below : (seconds : ℕ) → place / operators / sources % seconds < form_count
    second_below seconds = lt_of_le_of_lt (mod-le (place / operators / sources) seconds) names-below

-- ---- every place

abbrev every_place : (ℕ → Bool) → Bool
every_place test = every test form_count

abbrev divides : Block → Bool
divides b = ltb 0 b.seconds && (ltb 0 b.sources && ltb 0 b.operators)

-- it lies in its family's block
abbrev in_block : ℕ → Bool
in_block k =
    let f = family_at k in
    ltb f family.frame && (leb (block_of f).start k && divides (block_of f))

all_in_block : every_place in_block ≡ true
unfolding every first block_of family_at
all_in_block = refl

-- the loader allows its row
abbrev allowed : ℕ → Bool
allowed k = words.instruction_allowed [] 0 (row_at k)

all-allowed : every_place allowed ≡ true
unfolding every first row_at block_of words.instruction_allowed words.source_allowed words.operands_allowed words.operators_of
all-allowed = refl

-- which is at this place
abbrev placed : ℕ → Bool
placed k = eqb (place_of (form_of regions (row_at k))) k

all_placed : every_place placed ≡ true
unfolding every first row_at block_of place_of regions code_of lookup_of lookup_among operand_code source_code kind_code
all_placed = refl

pub record InBlock (k : ℕ) : Type 0 where
  pub of_family : family_at k < family.frame
  pub start : (block_of (family_at k)).start ≤ k
  pub divides : Divides (block_of (family_at k))

module _ (k : ℕ) (h : k < form_count) where
  pub within_block : InBlock k
  within_block =
      let (f, a) = both (ltb (family_at k) family.frame) _ (every-row in_block form_count all_in_block k h) in
      let (s, d) = both (leb (block_of (family_at k)).start k) _ a in
      let (b, e) = both (ltb 0 (block_of (family_at k)).seconds) _ d in
      let (c, o) = both (ltb 0 (block_of (family_at k)).sources) _ e in
      record {
        of_family = ltb-true _ _ f;
        start = leb-true _ _ s;
        divides = record { seconds = ltb-true _ _ b; sources = ltb-true _ _ c; operators = ltb-true _ _ o };
      }

  pub charted : Charted (row_at k)
  unfolding words.instruction_allowed row_at
  charted =
      let (o, a) = both (ltb (row_at k).operator (words.operators_of (row_at k).family)) _ (every-row allowed form_count all-allowed k h) in
      record {
        of_family = within_block.of_family;
        operator = ltb-true _ _ o;
        form = (both (words.form_allowed (row_at k).family (row_at k).source_form) _ a).0;
      }

  -- the check's verdict on it is the chart's entry
  pub worked_out : {v : Result (Unit {0}) TypeError} {x : Instruction} → x ≡ row_at k → v ≡ verdict_of regions [] 0 x → kind_of v ≡ get_or chart k 0
  worked_out r e =
      ap kind_of (e ∙ ap (verdict_of regions [] 0) r)
      ∙ (rows regions [] 0 (row_at k) charted).verdict
      ∙ ap (λ (p : ℕ). get_or chart p 0) (eqb-true _ _ (every-row placed form_count all_placed k h))
