-- What a chain over the rows of a table answers: `all` gives `every` of its test, `find` the `first` row. Assumes nothing.
use Rattle.std.proofs.Common.{ℕ, zero, suc, ◌+◌, ◌-◌, ◌<◌, ◌≤◌, Some, None, Bool, true, false, List, get_or, length, ◌≡◌, refl, sym, subst, ◌∙◌, arith}
use Rattle.std.proofs.lemmas.Iterator.{cases_from_all, first_from_Range, YieldsList-from_range}
use Rattle.std.proofs.lemmas.List.FromFn.{length-range_with_len, get_or-range_with_len}
use Rattle.std.proofs.iter.Yields.{nat_range_steps}
use Rattle.std.specs.Bool.{⊤, MatchBool}
use Rattle.std.specs.Fn.{Called, CalledAt}
use Rattle.std.specs.Iterator.{YieldsThen}
use Rattle.std.specs.List.{FoldsTo, AllWithin, HoldsAt, range_with_len}
use Rattle.std.specs.Option.{MatchOption, option_map_or, unwrap_or}
use Rattle.std.specs.declared.option.Option.{Option}
use Rattle.std.specs.declared.ops.Range.{Range}
use denote.Param.Members.{Mut}
use denote.Ref.{Bor}
use native.Mathlib.Decide.{ℕ_discrete}
use Rattle.tables.specs.First.{first, every_from, every}
use Rattle.tables.proofs.FirstLaws.{never, first-none, first-all, from-every, all_from, every-start}

module _ (test : ℕ → Bool) (i n : ℕ) where
  -- the rows that are looked at
  abbrev looked : List ℕ
  looked = range_with_len i (n - i)

  -- the number at place k
  number_at : (b : Bool) (k : ℕ) → k < n - i → test (get_or looked k 0) ≡ b → test (i + k) ≡ b
  number_at b k h t = subst (λ j. test j ≡ b) (get_or-range_with_len i (n - i) k 0 h) t

  decided : (r : Bool) → MatchBool r (AllWithin (λ k. test k ≡ true) looked 0 (length looked)) ((k : ℕ) × (k < length looked) × HoldsAt (λ k. test k ≡ false) looked k) → r ≡ every_from test i (n - i)
  decided true all =
      sym (all_from test (n - i) i (λ k l h. let e : i + (k - i) ≡ k = omega arith in rw e at (number_at true (k - i) (omega arith) (all (k - i) 0 (omega arith) (omega (arith, length-range_with_len i (n - i)))))))
  decided false (k, h, fails) = let l : k < n - i = omega (arith, length-range_with_len i (n - i)) in miss k l (number_at false k l (fails 0)) (every_from test i (n - i)) refl
    where
      miss : (k : ℕ) → k < n - i → test (i + k) ≡ false → (t : Bool) → every_from test i (n - i) ≡ t → false ≡ t
      miss k l f true e = never (sym f ∙ from-every test (n - i) i e (i + k) (omega arith) (omega arith))
      miss k l f false e = refl

  -- `(i..n).all` of a closure that computes the test
  pub every_from-from_all : {F : Type 0} {g : Mut F (ℕ × Unit {0}) Bool} (u : Range ℕ) (f : F) (r : Bool)
      → (xs : List ℕ) × (o : Option ℕ) × (j : F) × YieldsThen nat_range_steps (record { start = i; end = n }) xs o u × FoldsTo (λ p x q. Called g p (x, tt) true q) f xs j × MatchOption o (r ≡ true) (λ x. (r ≡ false) × ((h : F) × Called g j (x, tt) false h))
      → ((x : ℕ) (q : F) → Called g f (x, tt) true q → (q ≡ f) × (test x ≡ true))
      → ((x : ℕ) (q : F) → Called g f (x, tt) false q → test x ≡ false)
      → r ≡ every_from test i (n - i)
  every_from-from_all u f r ran holds fails = decided r (cases_from_all u f r (λ k. test k ≡ true) (λ k. test k ≡ false) ran (YieldsList-from_range i n (n - i) refl refl) holds fails)

-- and of all rows
pub every-from_all : (test : ℕ → Bool) (n : ℕ) {F : Type 0} {g : Mut F (ℕ × Unit {0}) Bool} (u : Range ℕ) (f : F) (r : Bool)
    → (xs : List ℕ) × (o : Option ℕ) × (j : F) × YieldsThen nat_range_steps (record { start = 0; end = n }) xs o u × FoldsTo (λ p x q. Called g p (x, tt) true q) f xs j × MatchOption o (r ≡ true) (λ x. (r ≡ false) × ((h : F) × Called g j (x, tt) false h))
    → ((x : ℕ) (q : F) → Called g f (x, tt) true q → (q ≡ f) × (test x ≡ true))
    → ((x : ℕ) (q : F) → Called g f (x, tt) false q → test x ≡ false)
    → r ≡ every test n
every-from_all test n u f r ran holds fails = every_from-from_all test 0 n u f r ran holds fails ∙ every-start test n

-- ---- a search of the rows from i to before n: the first that passes, if one does

module _ {A : Type 0} (test : ℕ → Bool) (value : ℕ → A) (other : A) (n i : ℕ) where
  first_at : (m j d : ℕ) → j ≤ d → d < j + m → test d ≡ true → ((k : ℕ) → j ≤ k → k < d → test k ≡ false) → first test value other j m ≡ value d
  unfolding first
  first_at zero j d l h t none = absurd (omega arith)
  first_at (suc m) j d l h t none = at (ℕ_discrete j d) (λ a b. first_at m (j + 1) d a b t (λ k l h. none k (omega arith) h))
    where
      at : Dec (j ≡ d) → (j + 1 ≤ d → d < j + 1 + m → first test value other (j + 1) m ≡ value d) → first test value other j (suc m) ≡ value d
      at (yes e) more = rw (e, t)
      at (no ne) more = rw (none j (omega arith) (omega arith)) (more (omega arith) (omega arith))

  found : (r : Option ℕ) → MatchOption r ((k : ℕ) → i ≤ k → k < n → test k ≡ false) (λ d. (i ≤ d) × (d < n) × (test d ≡ true) × ((k : ℕ) → i ≤ k → k < d → test k ≡ false))
      → option_map_or value r other ≡ first test value other i (n - i)
  found None none = sym (first-none test value other (n - i) i (λ k a b. none k a (omega arith)))
  found (Some d) (l, h, t, none) = sym (first_at (n - i) i d l (omega arith) t none)

  -- `(i..n).find` of a closure that computes the test
  pub first-from_find : {F : Type 0} {g : Mut F (Bor ℕ × Unit {0}) Bool} (u : Range ℕ) (f : F) (r : Option ℕ)
      → (xs : List ℕ) × (j : F) × YieldsThen nat_range_steps (record { start = i; end = n }) xs r u × FoldsTo (λ p x q. CalledAt g p x false q) f xs j × MatchOption r ⊤ (λ x. (h : F) × CalledAt g j x true h)
      → ((x : ℕ) (q : F) → CalledAt g f x true q → test x ≡ true)
      → ((x : ℕ) (q : F) → CalledAt g f x false q → (q ≡ f) × (test x ≡ false))
      → option_map_or value r other ≡ first test value other i (n - i)
  first-from_find u f r ran hit miss = found r (first_from_Range (record { start = i; end = n }) u f r (λ k. test k ≡ true) (λ k. test k ≡ false) ran hit miss)

-- the row that was found, or the one to give where none was
row_or : (r : Option ℕ) (other : ℕ) → unwrap_or r other ≡ option_map_or (λ k. k) r other
row_or None other = refl
row_or (Some k) other = refl

-- `(0..n).find` with `unwrap_or`
pub row-from_find : (test : ℕ → Bool) (n other : ℕ) {F : Type 0} {g : Mut F (Bor ℕ × Unit {0}) Bool} (u : Range ℕ) (f : F) (r : Option ℕ)
    → (xs : List ℕ) × (j : F) × YieldsThen nat_range_steps (record { start = 0; end = n }) xs r u × FoldsTo (λ p x q. CalledAt g p x false q) f xs j × MatchOption r ⊤ (λ x. (h : F) × CalledAt g j x true h)
    → ((x : ℕ) (q : F) → CalledAt g f x true q → test x ≡ true)
    → ((x : ℕ) (q : F) → CalledAt g f x false q → (q ≡ f) × (test x ≡ false))
    → unwrap_or r other ≡ first test (λ k. k) other 0 n
row-from_find test n other u f r ran hit miss = row_or r other ∙ first-from_find test (λ k. k) other n 0 u f r ran hit miss ∙ first-all test (λ k. k) other n
