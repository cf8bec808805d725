-- What rows give, one after the other.
use Rattle.std.specs.Prelude.{ℕ, zero, suc, ◌+◌, List, [], ◌∷◌, ◌++◌}

-- what the n rows from row i on give, in order
unfoldable pub gather : {A : Type 0} → (ℕ → List A) → ℕ → ℕ → List A
gather f i zero = []
gather f i (suc n) = f i ++ gather f (i + 1) n

-- the words of each item, in order
unfoldable pub flat : {A : Type 0} → (A → List ℕ) → List A → List ℕ
flat row [] = []
flat row (a ∷ l) = row a ++ flat row l
