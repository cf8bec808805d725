-- How far a number rounded to p binary digits lies from the number, and how far every other number of p digits does. Nothing here is of words.
-- `closest n u` is n / u to the nearest whole number, a tie to the even one. Assumes nothing.
use Rattle.std.proofs.Common.{◌≡◌, ℕ, zero, suc, ◌+◌, ◌-◌, ◌*◌, ◌/◌, ◌%◌, ◌^◌, ◌<◌, ◌≤◌, Bool, true, false, not, T, eqb, ltb, ◌≢◌, ◌⊎◌, sym, refl, ap, ◌∙◌, subst, inl, inr, le_trans, le_of_eq, lt_of_lt_of_le, le-add_right, le_of_lt, mul-le-mul_right, mod-lt, mul_assoc, suc-mul, eq-or-lt_of_le, mul-le-mul_left, pow-suc, div-add-mod', mul-one, arith, eqb→eq, leb→le, pow_pos, pow_mono, pow-add, shl_lt, ltb-false, ltb-true}
use Prim.Native.Nat.{compare, Ordering}
use Rattle.std.proofs.Math.Nat.{mul-mod_left, pow-succ', eq_of_mul-eq-mul_right}
use Rattle.std.proofs.Math.Dec.{is_le, compare_is_eq, nleb→lt, eqb_refl}
use Rattle.std.proofs.Math.Arith.{lt_of_le-ne}
use Rattle.std.specs.Float.Ieee.{nearest, size}
use Rattle.std.specs.Float.Ieee.Digits.{size_reaches}
use Rattle.std.specs.Float.Ieee.Fits.{nearest-le, kept-lt}
use Rattle.std.specs.Float.Ieee.Nearest.{closest}

-- the distance of two numbers
abbrev pub gap : ℕ → ℕ → ℕ
gap x y = (x - y) + (y - x)

-- ---- what `compare` says
abbrev Cmp : Ordering → ℕ → ℕ → Type 0
Cmp Ordering.lt a b = a < b
Cmp Ordering.eq a b = a ≡ b
Cmp Ordering.gt a b = b < a

cmp : (a b : ℕ) → Cmp (compare a b) a b
cmp a b = go (compare a b) (leb→le a b) (nleb→lt a b) (eqb→eq a b) (λ (e : a ≡ b). subst (λ (x : ℕ). T (eqb a x)) e (eqb_refl a))
  where
    go : (o : Ordering) → (T (is_le o) → a ≤ b) → (T (not (is_le o)) → b < a) → (T (compare_is_eq o) → a ≡ b) → (a ≡ b → T (compare_is_eq o)) → Cmp o a b
    go Ordering.lt h k e n = lt_of_le-ne (h tt) n
    go Ordering.eq h k e n = e tt
    go Ordering.gt h k e n = k tt

-- ---- where a multiple c * u lies beside q * u: before it, at it, at the next one, or past that
abbrev Place : ℕ → ℕ → ℕ → Type 0
Place c q u = (c * u + u ≤ q * u) ⊎ ((c ≡ q) ⊎ ((c ≡ suc q) ⊎ (q * u + u + u ≤ c * u)))

place : (c q u : ℕ) → Place c q u
place c q u = go (compare c q) (cmp c q)
  where
    after : (suc q ≡ c) ⊎ (suc q < c) → Place c q u
    after (inl e) = inr (inr (inl (sym e)))
    after (inr l) = inr (inr (inr (le_trans (le_of_eq (sym (suc-mul (suc q) u ∙ ap (λ (z : ℕ). z + u) (suc-mul q u)))) (mul-le-mul_right u l))))

    go : (o : Ordering) → Cmp o c q → Place c q u
    go Ordering.lt h = inl (le_trans (le_of_eq (sym (suc-mul c u))) (mul-le-mul_right u h))
    go Ordering.eq e = inr (inl e)
    go Ordering.gt h = after (eq-or-lt_of_le h)

-- ---- n is Q + r, with Q a multiple of u and r below u, and C is another multiple of u
module _ (n u Q C r : ℕ) (N : Q + r ≡ n) (R : r < u) where
  down_before : r * 2 < u → C + u ≤ Q → gap Q n < gap C n
  down_before h p = omega arith

  down_after : r * 2 < u → Q + u ≤ C → gap Q n < gap C n
  down_after h p = omega arith

  up_before : u < r * 2 → C ≤ Q → gap (Q + u) n < gap C n
  up_before h p = omega arith

  up_after : Q + u + u ≤ C → gap (Q + u) n < gap C n
  up_after p = omega arith

  half_before : r * 2 ≡ u → C ≤ Q → gap Q n ≤ gap C n
  half_before h p = omega arith

  half_after : r * 2 ≡ u → Q + u ≤ C → gap Q n ≤ gap C n
  half_after h p = omega arith

  half_same : r * 2 ≡ u → gap (Q + u) n ≡ gap Q n
  half_same h = omega arith

-- ---- the multiple k * u beside another, c * u: it is nearer to n, or the same, or no farther and k is even
abbrev pub Nearer : ℕ → ℕ → ℕ → ℕ → Type 0
Nearer n u k c = (gap (k * u) n < gap (c * u) n) ⊎ ((k ≡ c) ⊎ ((gap (k * u) n ≤ gap (c * u) n) × (k % 2 ≡ 0)))

even_tie : (q : ℕ) → (q + q % 2) % 2 ≡ 0
even_tie q = omega arith

-- q + q % 2 is q or the next
stays : (q : ℕ) → q % 2 ≡ 0 → q + q % 2 ≡ q
stays q e = omega arith

moves : (q r : ℕ) → q % 2 ≡ suc r → q + q % 2 ≡ suc q
moves q r e = omega arith

tie_is : (q : ℕ) → (q + q % 2 ≡ q) ⊎ (q + q % 2 ≡ suc q)
tie_is q = go (q % 2) refl
  where
    go : (r : ℕ) → q % 2 ≡ r → (q + q % 2 ≡ q) ⊎ (q + q % 2 ≡ suc q)
    go zero e = inl (stays q e)
    go (suc r) e = inr (moves q r e)

module _ (n u c q r : ℕ) (N : q * u + r ≡ n) (R : r < u) where
  at_next : c ≡ suc q → q * u + u ≡ c * u
  at_next e = sym (ap (λ (z : ℕ). z * u) e ∙ suc-mul q u)

  below_half : r * 2 < u → Place c q u → Nearer n u q c
  below_half h (inl p) = inl (down_before n u (q * u) (c * u) r N R h p)
  below_half h (inr (inl e)) = inr (inl (sym e))
  below_half h (inr (inr (inl e))) = inl (down_after n u (q * u) (c * u) r N R h (le_of_eq (at_next e)))
  below_half h (inr (inr (inr p))) = inl (down_after n u (q * u) (c * u) r N R h (le_trans (le-add_right (q * u + u) u) p))

  up : gap (q * u + u) n < gap (c * u) n → gap (suc q * u) n < gap (c * u) n
  up h = subst (λ (z : ℕ). gap z n < gap (c * u) n) (sym (suc-mul q u)) h

  above_half : u < r * 2 → Place c q u → Nearer n u (suc q) c
  above_half h (inl p) = inl (up (up_before n u (q * u) (c * u) r N R h (le_trans (le-add_right (c * u) u) p)))
  above_half h (inr (inl e)) = inl (up (up_before n u (q * u) (c * u) r N R h (le_of_eq (ap (λ (z : ℕ). z * u) e))))
  above_half h (inr (inr (inl e))) = inr (inl (sym e))
  above_half h (inr (inr (inr p))) = inl (up (up_after n u (q * u) (c * u) r N R p))

  half_least : r * 2 ≡ u → Place c q u → gap (q * u) n ≤ gap (c * u) n
  half_least h (inl p) = half_before n u (q * u) (c * u) r N R h (le_trans (le-add_right (c * u) u) p)
  half_least h (inr (inl e)) = half_before n u (q * u) (c * u) r N R h (le_of_eq (ap (λ (z : ℕ). z * u) e))
  half_least h (inr (inr (inl e))) = half_after n u (q * u) (c * u) r N R h (le_of_eq (at_next e))
  half_least h (inr (inr (inr p))) = half_after n u (q * u) (c * u) r N R h (le_trans (le-add_right (q * u + u) u) p)

  half_level : r * 2 ≡ u → (q + q % 2 ≡ q) ⊎ (q + q % 2 ≡ suc q) → gap ((q + q % 2) * u) n ≡ gap (q * u) n
  half_level h (inl e) = ap (λ (z : ℕ). gap (z * u) n) e
  half_level h (inr e) = ap (λ (z : ℕ). gap (z * u) n) e ∙ ap (λ (z : ℕ). gap z n) (suc-mul q u) ∙ half_same n u (q * u) (c * u) r N R h

  by_half : (o : Ordering) → Cmp o (r * 2) u → Nearer n u (nearest q o) c
  by_half Ordering.lt h = below_half h (place c q u)
  by_half Ordering.eq h = inr (inr (le_trans (le_of_eq (half_level h (tie_is q))) (half_least h (place c q u)), even_tie q))
  by_half Ordering.gt h = above_half h (place c q u)

pub closest_nearer : (n u c : ℕ) → 0 < u → Nearer n u (closest n u) c
closest_nearer n u c U = by_half n u c (n / u) (n % u) (div-add-mod' n u) (mod-lt n U) (compare (n % u * 2) u) (cmp (n % u * 2) u)

no_farther : (n u k c : ℕ) → Nearer n u k c → gap (k * u) n ≤ gap (c * u) n
no_farther n u k c (inl h) = le_of_lt h
no_farther n u k c (inr (inl e)) = le_of_eq (ap (λ (z : ℕ). gap (z * u) n) e)
no_farther n u k c (inr (inr p)) = p.0

-- ---- n rounded to p digits: with `dropped` digits off, `kept` is what is left of n to the nearest
abbrev pub dropped : ℕ → ℕ → ℕ
dropped p n = size n - p

abbrev pub kept : ℕ → ℕ → ℕ
kept p n = closest n (2 ^ dropped p n)

abbrev pub rounded : ℕ → ℕ → ℕ
rounded p n = kept p n * 2 ^ dropped p n

-- beside v: nearer to n, or the same, or no farther and what is kept is even
abbrev pub Closer : ℕ → ℕ → ℕ → Type 0
Closer p n v = (gap (rounded p n) n < gap v n) ⊎ ((rounded p n ≡ v) ⊎ ((gap (rounded p n) n ≤ gap v n) × (kept p n % 2 ≡ 0)))

to_multiple : (p n c v : ℕ) → c * 2 ^ dropped p n ≡ v → Nearer n (2 ^ dropped p n) (kept p n) c → Closer p n v
to_multiple p n c v e (inl h) = inl (subst (λ (z : ℕ). gap (rounded p n) n < gap z n) e h)
to_multiple p n c v e (inr (inl d)) = inr (inl (ap (λ (z : ℕ). z * 2 ^ dropped p n) d ∙ e))
to_multiple p n c v e (inr (inr h)) = inr (inr (subst (λ (z : ℕ). gap (rounded p n) n ≤ gap z n) e h.0, h.1))

back : (j k : ℕ) → k ≤ j → j - k + k ≡ j
back j k h = omega arith

multiple : (q j k : ℕ) → k ≤ j → q * 2 ^ (j - k) * 2 ^ k ≡ q * 2 ^ j
multiple q j k h = mul_assoc q (2 ^ (j - k)) (2 ^ k) ∙ ap (λ (z : ℕ). q * z) (sym (pow-add 2 (j - k) k) ∙ ap (λ (z : ℕ). 2 ^ z) (back j k h))

all_in_use : (z p j : ℕ) → 0 < p → j < z - p → p - 1 + (z - p) < z
all_in_use z p j P h = omega arith

room : (p j k : ℕ) → 0 < p → j < k → p + j ≤ p - 1 + k
room p j k P h = omega arith

under : (g b v n : ℕ) → g ≤ gap b n → b ≤ n → v < b → g < gap v n
under g b v n h l s = omega arith

-- every number of p digits, with any zeros after them
pub digits_closer : (p n q j : ℕ) → 0 < p → q < 2 ^ p → Closer p n (q * 2 ^ j)
digits_closer p n q j P Q = go (ltb j (dropped p n)) refl
  where
    go : (t : Bool) → ltb j (dropped p n) ≡ t → Closer p n (q * 2 ^ j)
    go true e =
        let k = dropped p n in
        let l : j < k = ltb-true j k e in
        let b = 2 ^ (p - 1) * 2 ^ k in
        let lo : b ≤ n = le_trans (le_of_eq (sym (pow-add 2 (p - 1) k))) (size_reaches n (p - 1 + k) (all_in_use (size n) p j P l)) in
        let hi : q * 2 ^ j < b = lt_of_lt_of_le (shl_lt p j Q) (le_trans (pow_mono (room p j k P l)) (le_of_eq (pow-add 2 (p - 1) k))) in
        inl (under (gap (rounded p n) n) b (q * 2 ^ j) n (no_farther n (2 ^ k) (kept p n) (2 ^ (p - 1)) (closest_nearer n (2 ^ k) (2 ^ (p - 1)) (pow_pos k))) lo hi)
    go false e =
        let k = dropped p n in
        let l : k ≤ j = ltb-false j k e in
        to_multiple p n (q * 2 ^ (j - k)) (q * 2 ^ j) (multiple q j k l) (closest_nearer n (2 ^ k) (q * 2 ^ (j - k)) (pow_pos k))

pub closer_le : (p n v : ℕ) → Closer p n v → gap (rounded p n) n ≤ gap v n
closer_le p n v (inl h) = le_of_lt h
closer_le p n v (inr (inl e)) = le_of_eq (ap (λ (z : ℕ). gap z n) e)
closer_le p n v (inr (inr h)) = h.0

not_less : (a b : ℕ) → a < b → a ≡ b → ⊥
not_less a b h e = omega arith

-- as near as v, and another number than v: then what is kept is even
pub closer_tie : (p n v : ℕ) → Closer p n v → gap (rounded p n) n ≡ gap v n → rounded p n ≢ v → kept p n % 2 ≡ 0
closer_tie p n v (inl h) e d = absurd (not_less (gap (rounded p n) n) (gap v n) h e)
closer_tie p n v (inr (inl s)) e d = absurd (d s)
closer_tie p n v (inr (inr h)) e d = h.1

twice : (x n : ℕ) → gap x n ≤ gap 0 n → x ≤ n + n
twice x n h = omega arith

pub rounded_le : (p n : ℕ) → 0 < p → rounded p n ≤ n + n
rounded_le p n P = twice (rounded p n) n (closer_le p n 0 (digits_closer p n 0 0 P (pow_pos p)))

pub kept_le : (p n : ℕ) → kept p n ≤ 2 ^ p
kept_le p n = le_trans (nearest-le (n / 2 ^ dropped p n) (compare (n % 2 ^ dropped p n * 2) (2 ^ dropped p n))) (kept-lt p n)

-- ---- a number m with x zeros after it, that is an even number h * 2 with k zeros after it: m is even, or it is at most h
halves : (k : ℕ) → k % 2 ≡ 0 → k / 2 * 2 ≡ k
halves k e = omega arith

shift : (x k : ℕ) → x < suc k → suc (k - x) + x ≡ suc k
shift x k h = omega arith

pub even_or_less : (m x h k : ℕ) → m * 2 ^ x ≡ h * 2 ^ suc k → (m % 2 ≡ 0) ⊎ (m ≤ h)
even_or_less m x h k e = go (ltb x (suc k)) refl
  where
    go : (t : Bool) → ltb x (suc k) ≡ t → (m % 2 ≡ 0) ⊎ (m ≤ h)
    go true t =
        let l : x < suc k = ltb-true x (suc k) t in
        let is : m ≡ h * 2 ^ suc (k - x) =
        eq_of_mul-eq-mul_right (2 ^ x) (pow_pos x) m (h * 2 ^ suc (k - x))
        (e ∙ sym (mul_assoc h (2 ^ suc (k - x)) (2 ^ x) ∙ ap (λ (z : ℕ). h * z) (sym (pow-add 2 (suc (k - x)) x) ∙ ap (λ (z : ℕ). 2 ^ z) (shift x k l)))) in
        inl (ap (λ (z : ℕ). z % 2) (is ∙ ap (λ (z : ℕ). h * z) (pow-suc 2 (k - x)) ∙ sym (mul_assoc h (2 ^ (k - x)) 2)) ∙ mul-mod_left (h * 2 ^ (k - x)) 2)
    go false t =
        let l : suc k ≤ x = ltb-false x (suc k) t in
        let is : m * 2 ^ (x - suc k) ≡ h =
        eq_of_mul-eq-mul_right (2 ^ suc k) (pow_pos (suc k)) (m * 2 ^ (x - suc k)) h (multiple m x (suc k) l ∙ e) in
        inr (le_trans (le_of_eq (sym (mul-one m))) (le_trans (mul-le-mul_left m (pow_pos (x - suc k))) (le_of_eq is)))

-- what is kept, where it is even
pub kept_half : (p n : ℕ) → kept p n % 2 ≡ 0 → rounded p n ≡ kept p n / 2 * 2 ^ suc (dropped p n)
kept_half p n e =
    ap (λ (z : ℕ). z * 2 ^ dropped p n) (sym (halves (kept p n) e))
    ∙ mul_assoc (kept p n / 2) 2 (2 ^ dropped p n)
    ∙ ap (λ (z : ℕ). kept p n / 2 * z) (sym (pow-succ' 2 (dropped p n)))
