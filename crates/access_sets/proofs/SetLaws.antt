-- The access sets are ascending, so without repeats, and have exactly the names that the arguments add. Assumes nothing.
use Prim.Native.Nat.{ℕ, zero, suc, ◌+◌, ◌<◌, ◌≤◌}
use mathlib.Core.Path.{◌≡◌, refl, ◌∙◌}
use mathlib.Core.Bool.{Bool, true, false, cond, ◌||◌}
use mathlib.Core.List.{List, [], ◌∷◌, ◌++◌}
use native.Mathlib.Omega.{arith}
use borrow.Author.Tests.{eq-eqb, ne_eqb, eqb-true, eqb-false, ltb-true, ltb-false}
use lib.Dec.{eqb, ltb}
use Rattle.extern_call.specs.Gather.{gather}
use Rattle.extern_call.specs.declared.call.ExternCall.{ExternCall}
use Rattle.access_sets.specs.Set.{inserted, insert_all, has, Above, Ascending, Distinct}
use Rattle.access_sets.specs.Access.{access_of, names_at, paired_count}
use Rattle.access_sets.specs.Laws.{AccessSet}
use Rattle.access_sets.specs.declared.access.Access.{Access}

pub above_ascends : (x : ℕ) (l : List ℕ) → Above x l → Ascending l
unfolding Above Ascending
above_ascends x [] a = tt
above_ascends x (y ∷ l) a = a.1

-- a name that is no higher than one below all is not among them
above_missing : (z x : ℕ) (l : List ℕ) → z ≤ x → Above x l → has z l ≡ false
unfolding Above has
above_missing z x [] h a = refl
above_missing z x (y ∷ l) h a = rw (ne_eqb z y (λ q. omega (arith, a.0)), above_missing z y l (omega (arith, a.0)) a.1)

ascending-distinct : (l : List ℕ) → Ascending l → Distinct l
unfolding Ascending Distinct
ascending-distinct [] a = tt
ascending-distinct (x ∷ l) a = (above_missing x x l (omega arith) a, ascending-distinct l (above_ascends x l a))

over : (n y : ℕ) → ltb n y ≡ false → eqb n y ≡ false → y < n
over n y f e = let a : n ≡ y → ⊥ = eqb-false n y e in omega (arith, ltb-false n y f)

above_step : (b₁ b₂ : Bool) (x n y : ℕ) (l : List ℕ) → ltb n y ≡ b₁ → eqb n y ≡ b₂ → x < n → x < y → Above y l
    → (y < n → Above y (inserted n l)) → Above x (cond b₁ (n ∷ y ∷ l) (cond b₂ (y ∷ l) (y ∷ inserted n l)))
unfolding Above
above_step true b₂ x n y l e f h g a ih = (h, (ltb-true n y e, a))
above_step false true x n y l e f h g a ih = (g, a)
above_step false false x n y l e f h g a ih = (g, ih (over n y e f))

insert_above : (l : List ℕ) (x n : ℕ) → x < n → Above x l → Above x (inserted n l)
unfolding Above inserted
insert_above [] x n h a = (h, tt)
insert_above (y ∷ l) x n h a = above_step (ltb n y) (eqb n y) x n y l refl refl h a.0 a.1 (λ k. insert_above l y n k a.1)

ascending-step : (b₁ b₂ : Bool) (n y : ℕ) (l : List ℕ) → ltb n y ≡ b₁ → eqb n y ≡ b₂ → Above y l
    → Ascending (cond b₁ (n ∷ y ∷ l) (cond b₂ (y ∷ l) (y ∷ inserted n l)))
unfolding Ascending Above
ascending-step true b₂ n y l e f a = (ltb-true n y e, a)
ascending-step false true n y l e f a = a
ascending-step false false n y l e f a = insert_above l y n (over n y e f) a

insert_ascending : (l : List ℕ) (n : ℕ) → Ascending l → Ascending (inserted n l)
unfolding Ascending Above inserted
insert_ascending [] n a = tt
insert_ascending (y ∷ l) n a = ascending-step (ltb n y) (eqb n y) n y l refl refl a

on_ascending : (ns s : List ℕ) → Ascending s → Ascending (insert_all s ns)
unfolding insert_all
on_ascending [] s a = a
on_ascending (n ∷ ns) s a = on_ascending ns (inserted n s) (insert_ascending s n a)

pub all-ascending : (ns : List ℕ) → Ascending (insert_all [] ns)
unfolding Ascending
all-ascending ns = on_ascending ns [] tt

or_twice : (a b : Bool) → (a || b) ≡ (a || (a || b))
or_twice true b = refl
or_twice false b = refl

or_swap : (a b c : Bool) → (a || (b || c)) ≡ (b || (a || c))
or_swap true true c = refl
or_swap true false c = refl
or_swap false true c = refl
or_swap false false c = refl

or_move : (a b c : Bool) → ((a || b) || c) ≡ (b || (a || c))
or_move true true c = refl
or_move true false c = refl
or_move false true c = refl
or_move false false c = refl

or_none : (a : Bool) → a ≡ (a || false)
or_none true = refl
or_none false = refl

has-step : (b₁ b₂ : Bool) (x n y : ℕ) (l : List ℕ) → eqb n y ≡ b₂ → has x (inserted n l) ≡ (eqb x n || has x l)
    → has x (cond b₁ (n ∷ y ∷ l) (cond b₂ (y ∷ l) (y ∷ inserted n l))) ≡ (eqb x n || (eqb x y || has x l))
unfolding has
has-step true b₂ x n y l e ih = refl
has-step false true x n y l e ih = let q : n ≡ y = eqb-true n y e in rw q (or_twice (eqb x y) (has x l))
has-step false false x n y l e ih = rw ih (or_swap (eqb x y) (eqb x n) (has x l))

has_insert : (l : List ℕ) (x n : ℕ) → has x (inserted n l) ≡ (eqb x n || has x l)
unfolding has inserted
has_insert [] x n = refl
has_insert (y ∷ l) x n = has-step (ltb n y) (eqb n y) x n y l refl (has_insert l x n)

has_all : (ns s : List ℕ) (x : ℕ) → has x (insert_all s ns) ≡ (has x s || has x ns)
unfolding has insert_all
has_all [] s x = or_none (has x s)
has_all (n ∷ ns) s x = has_all ns (inserted n s) x ∙ rw (has_insert s x n) (or_move (eqb x n) (has x s) (has x ns))

-- THE LAW of Laws.antt
pub access_set : (parameters arguments : List ℕ) (call : ExternCall) (access : Access) → AccessSet parameters arguments call access
unfolding access_of has
access_set parameters arguments call access =
    let names = gather (names_at parameters arguments call access) 0 (paired_count call) in
    record {
      distinct = ascending-distinct (insert_all [] names) (all-ascending names);
      ascending = all-ascending names;
      exact = has_all names [];
    }

or_right : (a b : Bool) → b ≡ true → (a || b) ≡ true
or_right true b e = refl
or_right false b e = e

has-append : (x : ℕ) (a b : List ℕ) → has x b ≡ true → has x (a ++ b) ≡ true
unfolding has
has-append x [] b h = h
has-append x (y ∷ a) b h = or_right (eqb x y) (has x (a ++ b)) (has-append x a b h)

has-gather : (f : ℕ → List ℕ) (x i n k : ℕ) → k < n → f (i + k) ≡ x ∷ [] → has x (gather f i n) ≡ true
unfolding gather has
has-gather f x i zero k h e = absurd (omega arith)
has-gather f x i (suc n) zero h e =
    let z : i + 0 ≡ i = omega arith in
    let q : f i ≡ x ∷ [] = rw z at e in
    rw (q, eq-eqb x x refl)
has-gather f x i (suc n) (suc k) h e =
    let z : i + suc k ≡ i + 1 + k = omega arith in
    has-append x (f i) (gather f (i + 1) n) (has-gather f x (i + 1) n k (omega arith) (rw z at e))

-- the name that an argument adds is in the set
pub added_has : (parameters arguments : List ℕ) (call : ExternCall) (access : Access) (x i : ℕ) → i < paired_count call
    → names_at parameters arguments call access i ≡ x ∷ [] → has x (access_of parameters arguments call access) ≡ true
added_has parameters arguments call access x i h e =
    let z : 0 + i ≡ i = omega arith in
    (access_set parameters arguments call access).exact x
    ∙ has-gather (names_at parameters arguments call access) x 0 (paired_count call) i h (rw z e)
