-- Laws of `first` and `every`: a loop's start, turn, hit and end, and what an answer says of each row. Assumes nothing.
use Rattle.std.proofs.Common.{ℕ, zero, suc, ◌+◌, ◌-◌, ◌<◌, ◌≤◌, Bool, true, false, not, cond, ◌||◌, ◌≡◌, refl, sym, ap, subst, ◌∙◌, add-one, arith, eq-eqb, ne_eqb, lt-ltb, le-ltb, le-leb}
use native.Mathlib.Decide.{ℕ_discrete}
use borrow.Author.Tests.{lt-leb}
use Rattle.tables.specs.First.{first, every_from, every}

-- a test does not both hold and fail
pub never : {A : Type 0} → false ≡ true → A
never e = let z : ◌≡◌ {A = ℕ} 0 1 = cc in absurd (omega arith)

pub left_suc : (n i : ℕ) → i < n → n - i ≡ suc (n - (i + 1))
left_suc n i h = (let e : n - i ≡ (n - (i + 1)) + 1 = omega arith in e) ∙ add-one _

module _ {A : Type 0} (test : ℕ → Bool) (value : ℕ → A) (other : A) (n i : ℕ) where
  pub first_hit : i < n → test i ≡ true → first test value other i (n - i) ≡ value i
  unfolding first
  first_hit h t = rw (left_suc n i h, t)

  pub first_miss : i < n → test i ≡ false → first test value other i (n - i) ≡ first test value other (i + 1) (n - (i + 1))
  unfolding first
  first_miss h t = rw (left_suc n i h, t)

  pub first-end : n ≤ i → first test value other i (n - i) ≡ other
  unfolding first
  first-end h = let e : n - i ≡ 0 = omega arith in rw e

-- no row of n from row i on passes
pub first-none : {A : Type 0} (test : ℕ → Bool) (value : ℕ → A) (other : A) (n i : ℕ) → ((k : ℕ) → i ≤ k → k < i + n → test k ≡ false) → first test value other i n ≡ other
unfolding first
first-none test value other zero i none = refl
first-none test value other (suc n) i none = rw (none i (omega arith) (omega arith)) (first-none test value other n (i + 1) (λ k l h. none k (omega arith) (omega arith)))

-- neither of two tests holds
neither : (a b : Bool) → (a || b) ≡ false → (a ≡ false) × (b ≡ false)
neither false b e = (refl, e)
neither true b e = let z : ◌≡◌ {A = ℕ} 0 1 = cc in absurd (omega arith)

-- four rows that `test` does not hold of are passed at once
pub first_four : {A : Type 0} (test : ℕ → Bool) (value : ℕ → A) (other : A) (n i : ℕ) → i + 3 < n
    → (test i || (test (i + 1) || (test (i + 2) || test (i + 3)))) ≡ false
    → first test value other i (n - i) ≡ first test value other (i + 4) (n - (i + 4))
first_four test value other n i h e =
    let (a, e₁) = neither (test i) _ e in
    let (b, e₂) = neither (test (i + 1)) _ e₁ in
    let (c, d) = neither (test (i + 2)) _ e₂ in
    let p : i + 1 + 1 ≡ i + 2 = omega arith in
    let q : i + 2 + 1 ≡ i + 3 = omega arith in
    let r : i + 3 + 1 ≡ i + 4 = omega arith in
    let s₁ : first test value other (i + 1) (n - (i + 1)) ≡ first test value other (i + 2) (n - (i + 2)) = subst (λ k. first test value other (i + 1) (n - (i + 1)) ≡ first test value other k (n - k)) p (first_miss test value other n (i + 1) (omega arith) b) in
    let s₂ : first test value other (i + 2) (n - (i + 2)) ≡ first test value other (i + 3) (n - (i + 3)) = subst (λ k. first test value other (i + 2) (n - (i + 2)) ≡ first test value other k (n - k)) q (first_miss test value other n (i + 2) (omega arith) c) in
    let s₃ : first test value other (i + 3) (n - (i + 3)) ≡ first test value other (i + 4) (n - (i + 4)) = subst (λ k. first test value other (i + 3) (n - (i + 3)) ≡ first test value other k (n - k)) r (first_miss test value other n (i + 3) (omega arith) d) in
    first_miss test value other n i (omega arith) a ∙ (s₁ ∙ (s₂ ∙ s₃))

pub first-all : {A : Type 0} (test : ℕ → Bool) (value : ℕ → A) (other : A) (n : ℕ) → first test value other 0 (n - 0) ≡ first test value other 0 n
first-all test value other n = let e : n - 0 ≡ n = omega arith in rw e

-- what a test that was made says of the test in a definition: `search tests`
pub ruleset tests = (eq-eqb, ne_eqb, lt-ltb, le-ltb, le-leb, lt-leb)

-- ---- a loop that looks for a row that fails: at row i the rows left decide

module _ (test : ℕ → Bool) (n : ℕ) where
  pub every-start : every_from test 0 (n - 0) ≡ every test n
  unfolding every
  every-start = first-all _ _ _ n

  module _ (i : ℕ) (inv : every_from test i (n - i) ≡ every test n) where
    pub every_stop : i < n → test i ≡ false → false ≡ every test n
    every_stop h t = sym (first_hit _ _ _ n i h (ap not t)) ∙ inv

    pub every-turn : i < n → test i ≡ true → every_from test (i + 1) (n - (i + 1)) ≡ every test n
    every-turn h t = sym (first_miss _ _ _ n i h (ap not t)) ∙ inv

    pub every-end : n ≤ i → true ≡ every test n
    every-end h = sym (first-end _ _ _ n i h) ∙ inv

-- a search for the first row that fails met none: each row passes
pub from-every : (test : ℕ → Bool) (n i : ℕ) → every_from test i n ≡ true → (k : ℕ) → i ≤ k → k < i + n → test k ≡ true
unfolding first
from-every test zero i e k l h = absurd (omega arith)
from-every test (suc n) i e k l h = at (test i) refl e (ℕ_discrete k i) (λ z l h. from-every test n (i + 1) z k l h)
  where
    at : (t : Bool) → test i ≡ t → cond (not t) false (every_from test (i + 1) n) ≡ true → Dec (k ≡ i)
        → (every_from test (i + 1) n ≡ true → i + 1 ≤ k → k < i + 1 + n → test k ≡ true) → test k ≡ true
    at true q z (yes s) ih = rw s q
    at true q z (no ne) ih = ih z (omega arith) (omega arith)
    at false q z d ih = let w : ◌≡◌ {A = ℕ} 0 1 = cc in absurd (omega arith)

pub every-row : (test : ℕ → Bool) (n : ℕ) → every test n ≡ true → (k : ℕ) → k < n → test k ≡ true
unfolding every
every-row test n e k h = from-every test n 0 e k (omega arith) (omega arith)

-- and where each row passes, every row does
pub all_from : (test : ℕ → Bool) (n i : ℕ) → ((k : ℕ) → i ≤ k → k < i + n → test k ≡ true) → every_from test i n ≡ true
unfolding first
all_from test zero i all = refl
all_from test (suc n) i all = rw (all i (omega arith) (omega arith)) (all_from test n (i + 1) (λ k l h. all k (omega arith) (omega arith)))

pub every-all : (test : ℕ → Bool) (n : ℕ) → ((k : ℕ) → k < n → test k ≡ true) → every test n ≡ true
unfolding every
every-all test n all = all_from test n 0 (λ k l h. all k (omega arith))

-- a row that fails, whichever it is
pub every_miss : (test : ℕ → Bool) (n k : ℕ) → k < n → test k ≡ false → false ≡ every test n
every_miss test n k h e = at (every test n) refl
  where
    at : (t : Bool) → every test n ≡ t → false ≡ t
    at true q = never (sym e ∙ every-row test n q k h)
    at false q = refl
