-- A definition by cases at a key and past its keys, and a fact shown by cases, a line a key. Assumes nothing.
use Rattle.std.proofs.Common.{ℕ, ◌≤◌, Bool, true, false, cond, List, [], ◌∷◌, ◌≡◌, refl, sym, ap, subst, ◌∙◌, eqb, ltb, eqb-true, ne_eqb, ltb-true, ltb-false}
use native.Mathlib.Decide.{ℕ_discrete}
use Rattle.tables.specs.Cases.{case_of}
use Rattle.tables.specs.First.{every}
use Rattle.tables.proofs.FirstLaws.{never, every-row}

-- x is none of the keys, as the rest arm of a match on them in this order says it, after `before`
abbrev pub Missed : {A : Type 0} → Type 0 → List (ℕ × A) → ℕ → Type 0
Missed before [] x = before
Missed before (c ∷ cs) x = Missed (before × (x ≡ c.0 → ⊥)) cs x

missed : {A : Type 0} (before : Type 0) (cs : List (ℕ × A)) (x : ℕ) → Missed before cs x → before
missed before [] x m = m
missed before (c ∷ cs) x m = (missed (before × (x ≡ c.0 → ⊥)) cs x m).0

none_hit : {A : Type 0} (before : Type 0) (cs : List (ℕ × A)) (other : A) (x : ℕ) → Missed before cs x → other ≡ case_of x cs other
unfolding case_of
none_hit before [] other x m = refl
none_hit before (c ∷ cs) other x m =
    rw (ne_eqb x c.0 (missed (before × (x ≡ c.0 → ⊥)) cs x m).1) (none_hit (before × (x ≡ c.0 → ⊥)) cs other x m)

-- the last arm of a match on the keys of a list of cases, in the list's order
pub other_arm : {A : Type 0} (cs : List (ℕ × A)) (other : A) (x : ℕ) → Missed (Unit {0}) cs x → other ≡ case_of x cs other
other_arm cs other x m = none_hit (Unit {0}) cs other x m

-- at a number that is a key
pub at_key : {A : Type 0} (cs : List (ℕ × A)) (other : A) {x k : ℕ} → x ≡ k → case_of k cs other ≡ case_of x cs other
at_key cs other e = ap (λ (n : ℕ). case_of n cs other) (sym e)

-- ---- a fact of every number, by cases

abbrev pub among : ℕ → List ℕ → Bool
among k [] = false
among k (j ∷ js) = cond (eqb k j) true (among k js)

-- every key of cs is among ks: it computes, so a key that is left out is seen
abbrev pub covers : {A : Type 0} → List ℕ → List (ℕ × A) → Bool
covers ks [] = true
covers ks (c ∷ cs) = cond (among c.0 ks) (covers ks cs) false

-- x is none of ks
pub record Apart (ks : List ℕ) (x : ℕ) : Type 0 where
  pub from : (k : ℕ) → among k ks ≡ true → x ≡ k → ⊥

abbrev pub keys_of : {P : ℕ → Type 0} → List ((k : ℕ) × P k) → List ℕ
keys_of [] = []
keys_of (l ∷ ls) = l.0 ∷ keys_of ls

also_apart : {j x : ℕ} {js : List ℕ} → (x ≡ j → ⊥) → Apart js x → Apart (j ∷ js) x
also_apart {j} {x} {js} ne a = record { from = λ k. at k (eqb k j) refl }
  where
    at : (k : ℕ) (t : Bool) → eqb k j ≡ t → cond t true (among k js) ≡ true → x ≡ k → ⊥
    at k true e h q = ne (q ∙ eqb-true k j e)
    at k false e h q = a.from k h q

on_key : (P : ℕ → Type 0) (x k : ℕ) → P k → ((x ≡ k → ⊥) → P x) → P x
on_key P x k p rest = at (ℕ_discrete x k)
  where
    at : Dec (x ≡ k) → P x
    at (yes e) = subst P (sym e) p
    at (no ne) = rest ne

-- P of every number: at each key by its line, and past them
pub by_key : (P : ℕ → Type 0) (lines : List ((k : ℕ) × P k)) (x : ℕ) → (Apart (keys_of lines) x → P x) → P x
by_key P [] x rest = rest (record { from = λ k e q. never e })
by_key P (l ∷ ls) x rest = on_key P x l.0 l.1 (λ ne. by_key P ls x (λ a. rest (also_apart ne a)))

-- past the keys
pub past_keys : {A : Type 0} {ks : List ℕ} {x : ℕ} → Apart ks x → (cs : List (ℕ × A)) (other : A) → covers ks cs ≡ true → case_of x cs other ≡ other
unfolding case_of
past_keys a [] other e = refl
past_keys {ks = ks} {x = x} a (c ∷ cs) other e = at (among c.0 ks) refl e (past_keys a cs other)
  where
    at : (t : Bool) → among c.0 ks ≡ t → cond t (covers ks cs) false ≡ true → (covers ks cs ≡ true → case_of x cs other ≡ other) → case_of x (c ∷ cs) other ≡ other
    at true h g past = rw (ne_eqb x c.0 (a.from c.0 h)) (past g)
    at false h g past = never g

-- past the first n numbers, where each is a key
pub past_first : (n : ℕ) {ks : List ℕ} {x : ℕ} → Apart ks x → every (λ k. among k ks) n ≡ true → n ≤ x
past_first n {ks} {x} a e = at (ltb x n) refl
  where
    at : (t : Bool) → ltb x n ≡ t → n ≤ x
    at true h = absurd (a.from x (every-row (λ k. among k ks) n e x (ltb-true x n h)) refl)
    at false h = ltb-false x n h
