-- Tests that both hold, and looks that were passed. Assumes nothing.
use Rattle.std.proofs.Common.{ℕ, Bool, true, false, ◌&&◌, ◌≡◌, refl, sym, ap, ◌∙◌, arith, Ok}
use Rattle.tables.specs.declared.refusal.Refusal.{Refusal}
use Rattle.tables.specs.Outcome.{Outcome, ◌>>◌, need}
use Rattle.tables.proofs.FirstLaws.{never}

pub both : (a b : Bool) → a && b ≡ true → (a ≡ true) × (b ≡ true)
both true true e = (refl, refl)
both true false e = never e
both false b e = never e

pub and_false : (b : Bool) → (b && false) ≡ false
and_false true = refl
and_false false = refl

-- a look that was passed
pub passed : {B : Type 0} (t : Bool) (n : Refusal) (s : Outcome B) (b : B) → (need t n >> s) ≡ Ok b → (t ≡ true) × (s ≡ Ok b)
unfolding ◌>>◌ need
passed true n s b e = (refl, e)
passed false n s b e = let z : ◌≡◌ {A = ℕ} 0 1 = cc in absurd (omega arith)

pub needed : (t : Bool) (n : Refusal) → need t n ≡ Ok tt → t ≡ true
unfolding need
needed true n e = refl
needed false n e = let z : ◌≡◌ {A = ℕ} 0 1 = cc in absurd (omega arith)

-- a callee's answer that was matched: what it says, read by f, of the definition that the callee meets
pub seen_by : {A B : Type 0} (f : A → B) {r r' : A} {s : B} → f r ≡ s → r ≡ r' → s ≡ f r'
seen_by f e g = sym e ∙ ap f g

-- where the answer itself is what is defined
pub seen : {A : Type 0} {r r' s : A} → r ≡ s → r ≡ r' → s ≡ r'
seen e g = seen_by (λ x. x) e g
