-- A small logic of computations that can be refused: every refusal satisfies R, every result P. Without 18 among the refusals it is progress and
-- preservation, with any refusal it is what holds of the results. Assumes nothing.
use Rattle.std.proofs.Common.{Ok, Err}
use Prim.Native.Nat.{ℕ}
use mathlib.Core.Bool.{Bool, true, false, cond, false≢true}
use mathlib.Core.List.{List, [], ◌∷◌}
use mathlib.Core.Path.{◌≡◌, refl, sym, ◌∙◌}
use native.Mathlib.Omega.{arith}
use Rattle.tables.specs.Refusal.{refusal_number, journal_full, no_rule}
use Rattle.tables.specs.declared.refusal.Refusal.{Refusal}
use Rattle.tables.specs.Outcome.{Outcome, ◌>>=◌, ◌>>◌, need}
use Rattle.tables.proofs.Cases.{among}

pub data Ends (R : Refusal → Type 0) {A : Type 0} (P : A → Type 0) : Outcome A → Type 0 where
  fine : {a : A} → P a → Ends R P (Ok a)
  turned : {n : Refusal} → R n → Ends R P (Err n)

-- ---- the refusals that may be met

-- 18, which no typed row meets, and 13, which is the session's
abbrev pub unmet : List ℕ
unmet = refusal_number no_rule ∷ refusal_number journal_full ∷ []

abbrev pub Ruled : Refusal → Type 0
Ruled r = among (refusal_number r) unmet ≡ false

abbrev pub Any : Refusal → Type 0
Any r = Unit {0}

-- ---- through a `do` block

module _ {R : Refusal → Type 0} where
  -- the first part ends so, and from what it gives so does the rest
  pub bind : {A B : Type 0} {P : A → Type 0} {Q : B → Type 0} {s : Outcome A} {f : A → Outcome B} → Ends R P s → ((a : A) → P a → Ends R Q (f a)) → Ends R Q (s >>= f)
  unfolding ◌>>=◌
  bind (fine {a = a} p) h = h a p
  bind (turned r) h = turned r

  -- a test whose refusal may be met
  pub tested : {B : Type 0} {Q : B → Type 0} {s : Outcome B} (n : Refusal) (t : Bool) → R n → (t ≡ true → Ends R Q s) → Ends R Q (need t n >> s)
  unfolding ◌>>◌ need
  tested n true r h = h refl
  tested n false r h = turned r

  -- a test that holds
  pub ruled : {B : Type 0} {Q : B → Type 0} {s : Outcome B} {t : Bool} → t ≡ true → Ends R Q s → Ends R Q (need t no_rule >> s)
  unfolding ◌>>◌ need
  ruled e h = rw e h

  pub either : {A : Type 0} {P : A → Type 0} (t : Bool) {a b : Outcome A} → (t ≡ true → Ends R P a) → (t ≡ false → Ends R P b) → Ends R P (cond t a b)
  either true h k = h refl
  either false h k = k refl

  pub weaken : {A : Type 0} {P Q : A → Type 0} {s : Outcome A} → ((a : A) → P a → Q a) → Ends R P s → Ends R Q s
  weaken h (fine {a = a} p) = fine (h a p)
  weaken h (turned r) = turned r

  -- what it says of the result
  pub gives : {A : Type 0} {P : A → Type 0} {s : Outcome A} (a : A) → Ends R P s → s ≡ Ok a → P a
  gives {P = P} b (fine {a = a} p) e = let q : a ≡ b = cc in rw (← q) p
  gives b (turned r) e = let z : ◌≡◌ {A = ℕ} 0 1 = cc in absurd (omega arith)

  -- and of the refusal
  pub refuses : {A : Type 0} {P : A → Type 0} {s : Outcome A} (n : Refusal) → Ends R P s → s ≡ Err n → R n
  refuses n (fine p) e = let z : ◌≡◌ {A = ℕ} 0 1 = cc in absurd (omega arith)
  refuses n (turned {n = m} r) e = let q : m ≡ n = cc in rw (← q) r

pub never_met : {A : Type 0} {P : A → Type 0} {s : Outcome A} (n : Refusal) → among (refusal_number n) unmet ≡ true → Ends Ruled P s → s ≡ Err n → ⊥
never_met n m h e = false≢true (sym (refuses n h e) ∙ m)

-- any computation, where nothing is asked
pub any : {A : Type 0} (s : Outcome A) → Ends Any (λ a. Unit {0}) s
any (Ok a) = fine tt
any (Err n) = turned tt
