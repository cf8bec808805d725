-- The codes of names and operands, by a lookup's answer and by a row's form. Assumes nothing.
use Rattle.std.proofs.Common.{Option, Some, None}
use Prim.Native.Nat.{ℕ, ◌<◌, ◌≤◌}
use mathlib.Core.Bool.{Bool, true, false, cond, ◌&&◌}
use mathlib.Core.List.{List}
use mathlib.Core.Logic.{◌⊎◌, inl, inr, ⊎_elim}
use mathlib.Core.Path.{◌≡◌, refl, sym, ap, ◌∙◌}
use native.Mathlib.Omega.{arith}
use borrow.Author.Tests.{ltb-true, ltb-false, eqb-true, lt-ltb, le-ltb}
use lib.Dec.{eqb}
use Rattle.tables.specs.Cases.{case_of}
use Rattle.tables.specs.First.{every}
use Rattle.tables.specs.Family as family
use Rattle.tables.specs.Lookup.{lookup_region}
use Rattle.tables.specs.Names.{names_source}
use Rattle.tables.specs.Rows.{region_kind}
use Rattle.tables.specs.declared.rows.Instruction.{Instruction}
use Rattle.tables.proofs.FirstLaws.{every-row}
use Rattle.word_rules.specs.Instruction.{form_allowed}
use Rattle.tables.proofs.Passed.{both}
use Rattle.type_rules.specs.Numbers.{absent}
use Rattle.type_rules.specs.Rule.{not_real}
use Rattle.type_rules.specs.Codes.{kind_code, found_code, code_of, reference_code, operand_code, source_code}

kind-below : (kind : ℕ) → kind_code kind < 4
unfolding kind_code
kind-below kind = at (not_real kind) refl
  where
    at : (t : Bool) → not_real kind ≡ t → kind_code kind < 4
    at true e = let h : kind < 3 = ltb-true kind 3 e in rw e (omega arith)
    at false e = rw e (omega arith)

-- a region's kind word, below REAL and from REAL on
kind_low : {r : ℕ} (kind : ℕ) → r ≡ kind → r < 3 → r ≡ kind_code kind
unfolding kind_code
kind_low kind e h = rw (← e, lt-ltb _ _ h)

kind_high : {r : ℕ} (kind : ℕ) → r ≡ kind → 3 ≤ r → 3 ≡ kind_code kind
unfolding kind_code
kind_high kind e h = rw (← e, le-ltb _ _ h)

-- the name is undeclared
pub code_none : (regions : List ℕ) (name : ℕ) {r : Option ℕ} → r ≡ lookup_region regions name → r ≡ None → code_of regions name ≡ 8
unfolding code_of
code_none regions name e f = ap (found_code regions) (sym e ∙ f)

-- an allowed kind is its own code
pub code_kind : (regions : List ℕ) (name : ℕ) {k : ℕ} → lookup_region regions name ≡ Some k → region_kind regions k < 4 → code_of regions name ≡ region_kind regions k
unfolding code_of
code_kind regions name {k} e h = ap (found_code regions) e ∙ at (not_real (region_kind regions k)) refl
  where
    at : (t : Bool) → not_real (region_kind regions k) ≡ t → kind_code (region_kind regions k) ≡ region_kind regions k
    at true q = sym (kind_low (region_kind regions k) refl (ltb-true _ _ q))
    at false q =
        let l : 3 ≤ region_kind regions k = ltb-false _ _ q in
        let s : 3 ≡ region_kind regions k = omega arith in
        sym (kind_high (region_kind regions k) refl l) ∙ s

-- ---- the codes that operands have: those below n, and `absent`. A name's is one with n = 4, a source's, with the literals, one with n = 6.

abbrev pub Code : ℕ → ℕ → Type 0
Code n c = (c < n) ⊎ (c ≡ absent)

abbrev pub every_code : ℕ → (ℕ → Bool) → Bool
every_code n test = every test n && test absent

pub each_code : (n : ℕ) (test : ℕ → Bool) → every_code n test ≡ true → (c : ℕ) → Code n c → test c ≡ true
each_code n test t c (inl h) = every-row test n (both (every test n) (test absent) t).0 c h
each_code n test t c (inr e) = rw e (both (every test n) (test absent) t).1

pub name_code : (regions : List ℕ) (name : ℕ) → Code 4 (code_of regions name)
unfolding code_of
name_code regions name = at (lookup_region regions name)
  where
    at : (f : Option ℕ) → Code 4 (found_code regions f)
    at (Some k) = inl (kind-below (region_kind regions k))
    at None = inr refl

module _ (regions : List ℕ) (x : Instruction) where
  pub operand_code_lem : Code 6 (operand_code regions x)
  unfolding operand_code case_of
  operand_code_lem = at (eqb x.source_form 0) (eqb x.source_form 1)
    where
      at : (a b : Bool) → Code 6 (cond a 4 (cond b 5 (reference_code regions x)))
      at true b = inl (omega arith)
      at false true = inl (omega arith)
      at false false = ⊎_elim (λ h. inl (omega arith)) inr (name_code regions x.source_first)

  pub reference_is : names_source x.source_form ≡ true → operand_code regions x ≡ reference_code regions x
  unfolding operand_code case_of
  reference_is e = rw (eqb-true x.source_form 2 e)

  -- "6 load (.. source = offset reference)": its code is an operand's too
  pub source_is : form_allowed x.family x.source_form ≡ true → source_code regions x ≡ operand_code regions x
  unfolding source_code form_allowed case_of
  source_is h = at (eqb x.family family.load) refl
    where
      at : (t : Bool) → eqb x.family family.load ≡ t → cond t (reference_code regions x) (operand_code regions x) ≡ operand_code regions x
      at true e = sym (reference_is (rw (eqb-true x.family family.load e) at h))
      at false e = refl
