-- A definition by cases on a number, a line a case, each with its number's name before its value. Laws: proofs/Cases.antt.
use Rattle.std.specs.Prelude.{ℕ, cond, List, [], ◌∷◌, eqb}

-- the value beside n, else `other`
unfoldable pub case_of : {A : Type 0} → ℕ → List (ℕ × A) → A → A
case_of n [] other = other
case_of n (c ∷ cs) other = cond (eqb n c.0) c.1 (case_of n cs other)
