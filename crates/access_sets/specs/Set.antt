-- A set of names as a list. 01, Calls: "distinct names, ascending".
use Rattle.std.specs.Prelude.{ℕ, ◌<◌, ◌≡◌, Bool, false, cond, ◌||◌, List, [], ◌∷◌, eqb, ltb}

-- a name put into ascending names: before the first that is above it; a name that is there already changes nothing
unfoldable pub inserted : ℕ → List ℕ → List ℕ
inserted x [] = x ∷ []
inserted x (y ∷ l) =
    cond (ltb x y) (x ∷ y ∷ l)
    (cond (eqb x y) (y ∷ l)
    (y ∷ inserted x l))

-- names put in one after the other
unfoldable pub insert_all : List ℕ → List ℕ → List ℕ
insert_all set [] = set
insert_all set (x ∷ l) = insert_all (inserted x set) l

-- whether a name is among them
unfoldable pub has : ℕ → List ℕ → Bool
has x [] = false
has x (y ∷ l) = eqb x y || has x l

-- "ascending": each name is above the one before it
unfoldable pub Above : ℕ → List ℕ → Type 0
Above x [] = Unit {0}
Above x (y ∷ l) = (x < y) × Above y l

unfoldable pub Ascending : List ℕ → Type 0
Ascending [] = Unit {0}
Ascending (x ∷ l) = Above x l

-- "distinct": no name is among those after it
unfoldable pub Distinct : List ℕ → Type 0
Distinct [] = Unit {0}
Distinct (x ∷ l) = (has x l ≡ false) × Distinct l
