-- What the answer of a search over rows says: it is the value of a row whose test holds, or no row's test holds. Assumes nothing.
use Prim.Native.Nat.{ℕ, zero, suc, ◌+◌, ◌<◌, ◌≤◌}
use mathlib.Core.Bool.{Bool, true, false, cond}
use mathlib.Core.Logic.{◌⊎◌, inl, inr}
use mathlib.Core.Path.{◌≡◌, refl}
use native.Mathlib.Omega.{arith}
use native.Mathlib.Decide.{ℕ_discrete}
use Rattle.tables.specs.First.{first}

-- v is the value of a row, one of the n from row i on, whose test holds
pub record Hit {A : Type 0} (test : ℕ → Bool) (value : ℕ → A) (i n : ℕ) (v : A) : Type 0 where
  pub row : ℕ
  pub from : i ≤ row
  pub below : row < i + n
  pub holds : test row ≡ true
  pub is : v ≡ value row

-- no test of the n rows from row i on holds
pub record Miss (test : ℕ → Bool) (i n : ℕ) : Type 0 where
  pub fails : (k : ℕ) → i ≤ k → k < i + n → test k ≡ false

pub searched : {A : Type 0} (test : ℕ → Bool) (value : ℕ → A) (other : A) (i n : ℕ) → Hit test value i n (first test value other i n) ⊎ ((first test value other i n ≡ other) × Miss test i n)
unfolding first
searched test value other i zero = inr (refl, record { fails = λ k l h. absurd (omega arith) })
searched {A} test value other i (suc n) = at (test i) refl (searched test value other (i + 1) n)
  where
    rest : A
    rest = first test value other (i + 1) n

    at : (t : Bool) → test i ≡ t → Hit test value (i + 1) n rest ⊎ ((rest ≡ other) × Miss test (i + 1) n)
        → Hit test value i (suc n) (cond (test i) (value i) rest) ⊎ ((cond (test i) (value i) rest ≡ other) × Miss test i (suc n))
    at true e r = inl (record { row = i; from = omega arith; below = omega arith; holds = e; is = rw e })
    at false e (inl h) =
        let a : i + 1 ≤ h.row = h.from in
        let b : h.row < i + 1 + n = h.below in
        inl (record { row = h.row; from = omega arith; below = omega arith; holds = h.holds; is = rw e h.is })
    at false e (inr r) = inr (rw e r.0, record { fails = λ k l h. later k l h (ℕ_discrete k i) })
      where
        later : (k : ℕ) → i ≤ k → k < i + suc n → Dec (k ≡ i) → test k ≡ false
        later k l h (yes q) = rw q e
        later k l h (no ne) = r.1.fails k (omega arith) (omega arith)

-- a search depends on the rows that it looks at
pub same_search : {A : Type 0} (test test' : ℕ → Bool) (value value' : ℕ → A) (other : A) (i n : ℕ) → ((k : ℕ) → i ≤ k → k < i + n → (test k ≡ test' k) × (value k ≡ value' k)) → first test value other i n ≡ first test' value' other i n
unfolding first
same_search test test' value value' other i zero h = refl
same_search test test' value value' other i (suc n) h =
    let e = h i (omega arith) (omega arith) in
    rw (e.0, e.1, same_search test test' value value' other (i + 1) n (λ k l u. h k (omega arith) (omega arith)))
