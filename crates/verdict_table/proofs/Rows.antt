-- Every row's verdict is its entry of the chart: one test computes it for every family, operator, source form and operands' codes. Assumes nothing.
use Prim.Native.Nat.{ℕ, ◌<◌}
use mathlib.Core.Bool.{Bool, true, cond, ◌&&◌}
use mathlib.Core.List.{List, [], ◌∷◌}
use mathlib.Core.Path.{◌≡◌, refl, ap, ◌∙◌}
use native.Mathlib.Omega.{arith}
use borrow.Author.Tests.{eqb-true, ltb-true}
use lib.Dec.{eqb, ltb}
use lib.ListN.{get_or}
use Rattle.words.specs.Kind.{integer_literal, real_literal}
use Rattle.tables.specs.Cases.{case_of}
use Rattle.tables.specs.Family as family
use Rattle.tables.specs.First.{first, every}
use Rattle.tables.specs.Source as source
use Rattle.tables.specs.declared.rows.Instruction.{Instruction}
use Rattle.tables.proofs.FirstLaws.{every-row}
use Rattle.tables.proofs.Cases.{by_key, past_first}
use Rattle.tables.proofs.Passed.{both}
use Rattle.word_rules.specs.Instruction as words
use Rattle.type_rules.specs.Judgement.{Judgement, pass, fail, verdict_at}
use Rattle.type_rules.specs.Codes.{reference_code, operand_code, source_code, row_rule}
use Rattle.type_rules.proofs.CodeLaws.{every_code, each_code, name_code, source_is}
use Rattle.type_check.specs.Check.{verdict_of}
use Rattle.type_check.proofs.CheckLaws.{row_judgement}
use Rattle.type_check.proofs.NameLaws.{logic_form}
use Rattle.verdict_table.specs.Forms.{Form, form_of}
use Rattle.verdict_table.specs.Chart.{kind_of, verdict_on, form_count, chart}
use Rattle.verdict_table.specs.Place.{place_of}
use Rattle.verdict_table.specs.Claim.{Charted, RowAgrees}

-- a source's code, by its form and the code of the name that it has where it is a reference: `operand_code`
abbrev source_by : ℕ → ℕ → ℕ
source_by form reference = case_of form ((source.integer_literal, integer_literal) ∷ (source.real_literal, real_literal) ∷ []) reference

abbrev form : ℕ → ℕ → ℕ → ℕ → ℕ → Form
form f o a b c = record { family = f; operator = o; first = a; second = b; source = c }

abbrev agrees : Form → Bool
agrees x = ltb (place_of x) form_count && eqb (verdict_on x) (get_or chart (place_of x) 0)

abbrev operands_agree : ℕ → ℕ → ℕ → Bool
operands_agree f s o = every_code 4 (λ a. every_code 4 (λ b. every_code 4 (λ c. agrees (form f o a b (source_by s c)))))

abbrev form_agrees : ℕ → ℕ → Bool
form_agrees f s = cond (words.form_allowed f s) (every (operands_agree f s) (words.operators_of f)) true

all_agree : every (λ f. every (form_agrees f) 4) family.frame ≡ true
unfolding every chart place_of words.operators_of
all_agree = refl

-- an allowed form is one of the four
form-below : (f s : ℕ) → f < family.frame → words.form_allowed f s ≡ true → s < 4
unfolding words.form_allowed case_of every first
form-below f s =
    by_key (λ k. k < family.frame → words.form_allowed k s ≡ true → s < 4)
    ((family.arithmetic, any)
    ∷ (family.comparison, any)
    ∷ (family.binary_logic, λ h a. omega (arith, logic_form s a))
    ∷ (family.unary, none)
    ∷ (family.move, any)
    ∷ (family.exchange, none)
    ∷ (family.load, λ h a. omega (arith, eqb-true s source.reference a))
    ∷ (family.store, any)
    ∷ [])
    f
    (λ past h a. absurd (omega (arith, past_first family.frame past refl)))
  where
    any : {k : ℕ} → k < family.frame → ltb s source.none ≡ true → s < 4
    any h a = omega (arith, ltb-true s source.none a)

    none : {k : ℕ} → k < family.frame → eqb s source.none ≡ true → s < 4
    none h a = omega (arith, eqb-true s source.none a)

allowed : (t a : Bool) → t ≡ true → cond t a true ≡ true → a ≡ true
allowed t a e h = rw e at h

-- the row matters to no kind
same_kind : (row : ℕ) (j : Judgement) → kind_of (verdict_at row j) ≡ kind_of (verdict_at 0 j)
same_kind row pass = refl
same_kind row (fail f) = refl

module _ (regions nodes : List ℕ) (row : ℕ) (x : Instruction) (charted : Charted x) where
  source_by_lem : source_code regions x ≡ source_by x.source_form (reference_code regions x)
  unfolding operand_code
  source_by_lem = source_is regions x charted.form

  row_agrees : agrees (form_of regions x) ≡ true
  row_agrees =
      let f = every-row _ family.frame all_agree x.family charted.of_family in
      let s = every-row _ 4 f x.source_form (form-below x.family x.source_form charted.of_family charted.form) in
      let o = every-row _ _ (allowed _ _ charted.form s) x.operator charted.operator in
      let a = each_code 4 _ o _ (name_code regions x.first_name) in
      let b = each_code 4 _ a _ (name_code regions x.second_name) in
      let c = each_code 4 _ b _ (name_code regions x.source_first) in
      rw source_by_lem c

  row-verdict : kind_of (verdict_of regions nodes row x) ≡ verdict_on (form_of regions x)
  unfolding verdict_of verdict_on row_rule
  row-verdict =
      ap (λ (j : Judgement). kind_of (verdict_at row j)) (row_judgement regions nodes x (λ e. absurd (omega (arith, e, charted.of_family))))
      ∙ same_kind row (row_rule regions x)

  pub rows : RowAgrees regions nodes row x
  rows =
      let (inside, same) = both (ltb (place_of (form_of regions x)) form_count) _ row_agrees in
      record { inside = ltb-true _ _ inside; verdict = row-verdict ∙ eqb-true _ _ same }
