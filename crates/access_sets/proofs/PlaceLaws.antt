-- Laws of a name's place among ascending names, and of insertion there. Assumes nothing.
use Rattle.std.proofs.Common.{ℕ, zero, suc, ◌<◌, ◌≤◌, ◌≡◌, refl, sym, arith, List, [], ◌∷◌, ◌++◌, length, get_or, take, drop}
use borrow.Author.Tests.{lt-ltb, le-ltb, eq-eqb, ne_eqb}
use Rattle.access_sets.specs.Set.{inserted, Above, Ascending}
use Rattle.access_sets.proofs.SetLaws.{above_ascends}

above_at : (x : ℕ) (l : List ℕ) (m : ℕ) → Above x l → m < length l → x < get_or l m 0
unfolding Above
above_at x [] m a h = absurd (omega arith)
above_at x (y ∷ l) zero a h = a.0
above_at x (y ∷ l) (suc m) a h = let g = above_at y l m a.1 (omega arith) in omega (arith, a.0)

-- a name is no higher than a later one
pub rises : (l : List ℕ) → Ascending l → (i j : ℕ) → i ≤ j → j < length l → get_or l i 0 ≤ get_or l j 0
unfolding Ascending
rises [] a i j h k = absurd (omega arith)
rises (y ∷ l) a zero zero h k = omega arith
rises (y ∷ l) a zero (suc j) h k = let g = above_at y l j a (omega arith) in omega (arith, g)
rises (y ∷ l) a (suc i) zero h k = absurd (omega arith)
rises (y ∷ l) a (suc i) (suc j) h k = rises l (above_ascends y l a) i j (omega arith) (omega arith)

-- where y is lower than x, x goes past it
inserted_past : (x y : ℕ) (l : List ℕ) → y < x → inserted x (y ∷ l) ≡ y ∷ inserted x l
unfolding inserted
inserted_past x y l h = rw (le-ltb x y (omega arith), ne_eqb x y (λ q. omega arith))

-- a name that is there changes nothing
pub inserted-there : (x : ℕ) (l : List ℕ) (i : ℕ) → Ascending l → i < length l → get_or l i 0 ≡ x → inserted x l ≡ l
unfolding Ascending inserted
inserted-there x [] i a h g = absurd (omega arith)
inserted-there x (y ∷ l) zero a h g = rw (le-ltb x y (omega (arith, g)), eq-eqb x y (sym g))
inserted-there x (y ∷ l) (suc i) a h g =
    let k : y < get_or l i 0 = above_at y l i a (omega arith) in
    let p : y < x = omega (arith, g) in
    rw (inserted_past x y l p, inserted-there x l i (above_ascends y l a) (omega arith) g)

-- one that is not there is put after those that are lower
pub inserted_new : (x : ℕ) (l : List ℕ) (i : ℕ) → i ≤ length l → ((k : ℕ) → k < i → get_or l k 0 < x) → ((k : ℕ) → i ≤ k → k < length l → x < get_or l k 0)
    → inserted x l ≡ take i l ++ x ∷ drop i l
unfolding inserted
inserted_new x [] zero h lower higher = refl
inserted_new x [] (suc i) h lower higher = absurd (omega arith)
inserted_new x (y ∷ l) zero h lower higher = rw (lt-ltb x y (higher 0 (omega arith) (omega arith)))
inserted_new x (y ∷ l) (suc i) h lower higher =
    rw (inserted_past x y l (lower 0 (omega arith)), inserted_new x l i (omega arith) (λ k b. lower (suc k) (omega arith)) (λ k b c. higher (suc k) (omega arith) (omega arith)))
