-- 02, P7: "Proved once over all entries: table and check agree." To be read without the proofs; Top.antt in proofs/ has the theorem.
-- That the code's constant table is `chart` is the promise of `verdict_at` (src/table.rt).
use Rattle.std.specs.Prelude.{ℕ, zero, suc, ◌+◌, ◌<◌, true, List, [], ◌∷◌, map, ◌≡◌, length, get_or}
use Rattle.tables.specs.Family as family
use Rattle.tables.specs.declared.rows.Instruction.{Instruction}
use Rattle.word_rules.specs.Instruction as words
use Rattle.type_check.specs.Check.{verdict_of}
use Rattle.verdict_table.specs.Forms.{Form, form_of, families, forms}
use Rattle.verdict_table.specs.Chart.{kind_of, verdict_on, form_count, chart, count_from}
use Rattle.verdict_table.specs.Place.{size_of, place_of}

-- a row of families 0 to 7, with an operator and a source form that its family allows
pub record Charted (x : Instruction) : Type 0 where
  pub of_family : x.family < family.frame
  pub operator : x.operator < words.operators_of x.family
  pub form : words.form_allowed x.family x.source_form ≡ true

-- of every such row, whatever regions are declared: its form has a place, and the chart holds there the verdict's kind
pub record RowAgrees (regions nodes : List ℕ) (row : ℕ) (x : Instruction) : Type 0 where
  pub inside : place_of (form_of regions x) < form_count
  pub verdict : kind_of (verdict_of regions nodes row x) ≡ get_or chart (place_of (form_of regions x)) 0

-- i, i + 1, .., n of them
abbrev pub numbers_from : ℕ → ℕ → List ℕ
numbers_from i zero = []
numbers_from i (suc n) = i ∷ numbers_from (i + 1) n

pub record ChartClaim : Type 0 where
  -- 02: "By family the forms are 35, 175, 30, 10, 35, 25, 125 and 175."
  pub sizes : map size_of families ≡ 35 ∷ 175 ∷ 30 ∷ 10 ∷ 35 ∷ 25 ∷ 125 ∷ 175 ∷ []
  -- 02: "the 610 verdicts"
  pub size : length chart ≡ form_count
  -- each entry is the verdict on its form (`past` stands for a form past the last: there is none)
  pub entries : (past : Form) (k : ℕ) → k < form_count → get_or chart k 0 ≡ verdict_on (get_or forms k past)
  -- each form stands at its place
  pub places : map place_of forms ≡ numbers_from 0 form_count
  -- 02: "53 are accepted"; and so many have each type error: 3 is of frames alone
  pub counts : map (λ kind. count_from kind 0 form_count) (numbers_from 0 5) ≡ 53 ∷ 235 ∷ 78 ∷ 0 ∷ 244 ∷ []
  -- 02: "table and check agree"
  pub rows : (regions nodes : List ℕ) (row : ℕ) (x : Instruction) → Charted x → RowAgrees regions nodes row x
