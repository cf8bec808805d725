-- What the verdict on a program says: an error is the judgement on one of its rows; where it is accepted, each row passes. And the judgement
-- on a row that is no frame; and what the check asks for, from the loader's acceptance. Assumes nothing.
use Rattle.std.proofs.Common.{Ok, Err}
use Prim.Native.Nat.{ℕ, ◌+◌, ◌<◌}
use mathlib.Core.Bool.{true, false}
use mathlib.Core.List.{List}
use mathlib.Core.Logic.{⊎_elim}
use mathlib.Core.Path.{◌≡◌, refl, sym, ap, ◌∙◌}
use native.Mathlib.Omega.{arith}
use borrow.Author.Tests.{eqb-false, ne_eqb}
use lib.Dec.{eqb}
use Rattle.tables.specs.Family as family
use Rattle.tables.specs.Tables.{Tables}
use Rattle.tables.specs.Rows.{instruction_rows, instruction_at}
use Rattle.tables.specs.declared.rows.Instruction.{Instruction}
use Rattle.loader.proofs.Loaded.{Loaded, frame-inside}
use Rattle.type_rules.specs.Judgement.{Judgement, pass, fail, verdict_at}
use Rattle.type_rules.specs.Codes.{row_rule}
use Rattle.type_check.specs.Check.{judgement_of, verdict_of, is_error, row_verdict, check_of, FramesInside}
use Rattle.type_rules.specs.declared.error.TypeError.{TypeError}
use Rattle.type_check.proofs.Searches.{searched}

-- every frame's range lies in the node table
pub loaded_frames : {t : Tables} → Loaded t → FramesInside t.nodes t.instructions
loaded_frames l = record { row = λ k h. record { inside = frame-inside l k h } }

module _ (regions nodes : List ℕ) (x : Instruction) where
  -- a row that is no frame, by its rule
  pub row_judgement : (x.family ≡ family.frame → ⊥) → judgement_of regions nodes x ≡ row_rule regions x
  unfolding judgement_of
  row_judgement ne = rw (ne_eqb _ _ ne)

passes : (row : ℕ) (j : Judgement) → is_error (verdict_at row j) ≡ false → j ≡ pass
passes row pass q = refl
passes row (fail f) q = let z : ◌≡◌ {A = ℕ} 0 1 = cc in absurd (omega arith)

same_row : (row : ℕ) (j : Judgement) {e : TypeError} → Err e ≡ verdict_at row j → e.row ≡ row
same_row row pass q = let z : ◌≡◌ {A = ℕ} 0 1 = cc in absurd (omega arith)
same_row row (fail f) q = cc

-- an error that was reported: its row is one of the program's, and it is that row's judgement
pub record Reported (regions nodes instructions : List ℕ) (e : TypeError) : Type 0 where
  pub inside : e.row < instruction_rows instructions
  pub is : Err e ≡ verdict_at e.row (judgement_of regions nodes (instruction_at instructions e.row))

module _ (regions nodes instructions : List ℕ) where
  pub reported : {e : TypeError} → check_of regions nodes instructions ≡ Err e → Reported regions nodes instructions e
  unfolding check_of verdict_of
  reported {e} q =
      ⊎_elim
      (λ h.
      let w : Err e ≡ verdict_at h.row (judgement_of regions nodes (instruction_at instructions h.row)) = sym q ∙ h.is in
      let s : e.row ≡ h.row = same_row h.row (judgement_of regions nodes (instruction_at instructions h.row)) w in
      let b : h.row < 0 + instruction_rows instructions = h.below in
      record { inside = omega arith; is = w ∙ ap (λ (k : ℕ). verdict_at k (judgement_of regions nodes (instruction_at instructions k))) (sym s) })
      (λ m. let z : ◌≡◌ {A = ℕ} 0 1 = cc in absurd (omega arith))
      (searched _ _ _ 0 (instruction_rows instructions))

  module _ (accepted : check_of regions nodes instructions ≡ (Ok tt)) (k : ℕ) (inside : k < instruction_rows instructions) where
    not-error : is_error (row_verdict regions nodes instructions k) ≡ false
    unfolding check_of
    not-error =
        ⊎_elim
        (λ h.
        let t : is_error (Ok tt) ≡ true = ap is_error (sym accepted ∙ h.is) ∙ h.holds in
        let z : ◌≡◌ {A = ℕ} 0 1 = cc in
        absurd (omega arith))
        (λ m. m.1.fails k (omega arith) (omega arith))
        (searched _ _ _ 0 (instruction_rows instructions))

    -- each row passes
    pub row-passes : judgement_of regions nodes (instruction_at instructions k) ≡ pass
    unfolding verdict_of
    row-passes = passes k (judgement_of regions nodes (instruction_at instructions k)) not-error

    -- a row that is no frame by its rule, at its operands' codes
    pub rule_passes : eqb (instruction_at instructions k).family family.frame ≡ false → row_rule regions (instruction_at instructions k) ≡ pass
    rule_passes h = sym (row_judgement regions nodes (instruction_at instructions k) (eqb-false _ family.frame h)) ∙ row-passes
