-- A REAL's whole number, from the library's truncation of its value, and the answer. Assumes nothing.
use Rattle.std.proofs.Common.{◌≡◌, ℕ, zero, suc, ◌+◌, ◌-◌, ◌*◌, ◌/◌, ◌%◌, ◌^◌, ◌<◌, ◌≤◌, min, Bool, true, false, cond, ℤ, pos, neg_ℤ, w64, of_z, sym, refl, ap, ◌∙◌, ap₂, subst, le_trans, ltb, eqb, ◌||◌, ◌&&◌, lt_of_lt_of_le, mod-lt, mod-eq_of_lt, mul_assoc, mul_comm, arith, lit≤, pow_pos, pow_mono, pow-add, shl_lt, le-leb, ltb-true, ltb-false, lt-ltb, Some, None}
use Rattle.std.specs.Float.{Float, nan, inf, fin, binary64, two_to, minus_two_to}
use Rattle.std.specs.Float.Ieee.{of_bits, to_signed, lt, le, eq, up, down}
use Rattle.std.specs.Float.Ieee.Exact.{HasValue}
use Rattle.std.specs.Float.Ieee.Fits.{down_pos}
use Rattle.std.specs.Int.Signed.{quot_z}
use Rattle.std.proofs.Math.Nat.{div-eq_of_lt, mul-div-mul_right, le-div_iff_mul-le, div-lt_iff_lt-mul, lt_of_mul-lt-mul_right, mul-lt-mul_of_pos_right, mul_right_comm}
use Rattle.std.proofs.Math.Pow.{shl-shr}
use Rattle.std.proofs.lemmas.Bool.{lt-leb}
use Rattle.std.proofs.lemmas.Bool.Decides.{nat_tests}
use Rattle.words.specs.TwosComplement.{word_of}
use Rattle.words.specs.Convert.{is_negative, exponent, fraction, is_finite, units_at, units_of_one, with_sign, units, truncated, within_integer, real_to_integer}
use Rattle.words.proofs.Units.{by_digits, same_value, no_value}

-- ---- one quotient, of the value's fraction and of its units

same_quotient : (m c n d : ℕ) → 0 < c → 0 < d → m * d ≡ n * c → m / c ≡ n / d
same_quotient m c n d hc hd e = sym (mul-div-mul_right m c hd) ∙ ap₂ ◌/◌ e (mul_comm c d) ∙ mul-div-mul_right n d hc

-- above 2 ^ 63 the units are whole
abbrev Spaced : ℕ → Type 0
Spaced n = 2 ^ 63 * units_of_one < n → 2 ^ 63 < n / units_of_one

whole : (p : ℕ) → Spaced (p * units_of_one)
whole p l = subst (λ (k : ℕ). 2 ^ 63 < k) (sym (shl-shr p 1074)) (lt_of_mul-lt-mul_right units_of_one {m = 2 ^ 63} {n = p} l)

no : (x y : ℕ) → x < y → y < x → ⊥
no x y h k = omega arith

near_place : (j : ℕ) → j < 1074 → 53 + j ≤ 1127
near_place j h = omega arith

rejoin : (j : ℕ) → 1074 ≤ j → j - 1074 + 1074 ≡ j
rejoin j h = omega arith

spaced : (q j : ℕ) → q < 2 ^ 53 → Spaced (q * 2 ^ j)
spaced q j h = go (ltb j 1074) refl
  where
    low : j < 1074 → 2 ^ 63 * units_of_one < q * 2 ^ j → ⊥
    low b l = no (2 ^ 63 * units_of_one) (q * 2 ^ j) l (lt_of_lt_of_le (shl_lt 53 j h) (le_trans (pow_mono {i = 53 + j} {j = 1127} (near_place j b)) (lit≤ tt)))

    go : (b : Bool) → ltb j 1074 ≡ b → Spaced (q * 2 ^ j)
    go true e = (λ l. absurd (low (ltb-true j 1074 e) l))
    go false e =
        subst Spaced
        (mul_assoc q (2 ^ (j - 1074)) units_of_one ∙ ap (λ (k : ℕ). q * k) (sym (pow-add 2 (j - 1074) 1074)) ∙ ap (λ (k : ℕ). q * 2 ^ k) (rejoin j (ltb-false j 1074 e)))
        (whole (q * 2 ^ (j - 1074)))

spaced-units : (a : ℕ) → Spaced (units_at (exponent a) (fraction a))
spaced-units a = by_digits Spaced (exponent a) (fraction a) (mod-lt a (pow_pos 52)) spaced

-- ---- the value's fraction m / c beside 2 ^ 63

module _ (m c : ℕ) (hc : 0 < c) where
  quotient_below : ltb (m * 1) (1 * 2 ^ 63 * c) ≡ true → m / c < 2 ^ 63
  quotient_below e = (div-lt_iff_lt-mul hc).1 (let h : m * 1 < 1 * 2 ^ 63 * c = ltb-true _ _ e in omega arith)

  quotient_from : ltb (m * 1) (1 * 2 ^ 63 * c) ≡ false → 2 ^ 63 ≤ m / c
  quotient_from e = (le-div_iff_mul-le hc).1 (let h : 1 * 2 ^ 63 * c ≤ m * 1 = ltb-false _ _ e in omega arith)

  quotient_at_most : ltb (m * 1) (1 * 2 ^ 63 * c) || (eqb (1 * 2 ^ 63 * c) (m * 1) && true) ≡ true → m / c ≤ 2 ^ 63
  quotient_at_most e =
      let h : m ≤ 2 ^ 63 * c = grind (arith, nat_tests) in
      let l : m / c < 2 ^ 63 + 1 = (div-lt_iff_lt-mul hc).1 (omega arith) in
      omega arith

  units_above : (n : ℕ) → ltb (m * 1) (1 * 2 ^ 63 * c) || (eqb (1 * 2 ^ 63 * c) (m * 1) && true) ≡ false → m * units_of_one ≡ n * c → 2 ^ 63 * units_of_one < n
  units_above n e v =
      let h : 2 ^ 63 * c < m = grind (arith, nat_tests) in
      above units_of_one n (pow_pos 1074) h v
    where
      above : (d n : ℕ) → 0 < d → 2 ^ 63 * c < m → m * d ≡ n * c → 2 ^ 63 * d < n
      above d n hd h v =
          lt_of_mul-lt-mul_right c {m = 2 ^ 63 * d} {n = n}
          (subst (λ (z : ℕ). 2 ^ 63 * d * c < z) v (subst (λ (z : ℕ). z < m * d) (mul_right_comm (2 ^ 63) c d) (mul-lt-mul_of_pos_right h hd)))

-- ---- in the range, and outside

last_below : (k : ℕ) → k < 2 ^ 63 → k ≤ 2 ^ 63 - 1
last_below k h = omega arith

last_above : (k : ℕ) → 2 ^ 63 ≤ k → 2 ^ 63 - 1 < k
last_above k h = omega arith

word_fits : (k : ℕ) → k < 2 ^ 63 → k < 2 ^ 64
word_fits k h = omega arith

within_pos : (k : ℕ) → k < 2 ^ 63 → Some k ≡ within_integer (pos k)
unfolding within_integer word_of
within_pos k h = rw (le-leb k (2 ^ 63 - 1) (last_below k h)) (ap Some (sym (mod-eq_of_lt (word_fits k h))))

beyond_pos : (k : ℕ) → 2 ^ 63 ≤ k → None ≡ within_integer (pos k)
unfolding within_integer
beyond_pos k h = rw (lt-leb k (2 ^ 63 - 1) (last_above k h))

neg_fits : (j : ℕ) → suc j ≤ 2 ^ 63 → 2 ^ 64 - suc j ≡ 2 ^ 64 - suc (j % 2 ^ 64)
neg_fits j l = omega arith

within-neg : (k : ℕ) → k ≤ 2 ^ 63 → Some (of_z w64 (neg_ℤ (pos k))) ≡ within_integer (neg_ℤ (pos k))
unfolding within_integer word_of
within-neg zero l = refl
within-neg (suc j) l = rw (le-leb j (2 ^ 63 - 1) (last_below j l)) (ap Some (neg_fits j l))

none : (k : ℕ) → k < 0 → ⊥
none k h = omega arith

neg_above : (j : ℕ) → 2 ^ 63 < suc j → 2 ^ 63 - 1 < j
neg_above j h = omega arith

beyond_neg : (k : ℕ) → 2 ^ 63 < k → None ≡ within_integer (neg_ℤ (pos k))
unfolding within_integer
beyond_neg zero h = absurd (none (2 ^ 63) h)
beyond_neg (suc j) h = rw (lt-leb j (2 ^ 63 - 1) (neg_above j h))

-- ---- the answers, from the size k without its fraction

quotient : (s : Bool) (n d : ℕ) → 0 < d → quot_z (with_sign s n) (pos d) ≡ with_sign s (n / d)
quotient false n d h = refl
quotient true zero d h = rw (div-eq_of_lt h)
quotient true (suc n) d h = refl

module _ (a k : ℕ) (K : k ≡ units_at (exponent a) (fraction a) / units_of_one) (s : Bool) (g : is_negative a ≡ s) (f : is_finite a ≡ true) where
  cut : truncated a ≡ with_sign s k
  unfolding truncated units
  cut = quotient (is_negative a) (units_at (exponent a) (fraction a)) units_of_one (pow_pos 1074) ∙ ap₂ with_sign g (sym K)

  answer : within_integer (with_sign s k) ≡ real_to_integer a
  unfolding real_to_integer
  answer = sym (ap (λ (t : Bool). cond t (within_integer (truncated a)) None) f ∙ ap within_integer cut)

unanswered : (a : ℕ) → is_finite a ≡ false → None ≡ real_to_integer a
unfolding real_to_integer
unanswered a f = sym (ap (λ (t : Bool). cond t (within_integer (truncated a)) None) f)

-- ---- by the value

abbrev pub Inside : Float → Type 0
Inside x = (le (minus_two_to 63) x ≡ true) × (lt x (two_to 63) ≡ true)

module _ (a : ℕ) (s : Bool) (m : ℕ) (e : ℤ) (E : of_bits binary64 a ≡ fin s m e) where
  finite : is_finite a ≡ false → ⊥
  finite f = no_value a s (m * up e) (down e) f (subst (λ (y : Float). HasValue y s (m * up e) (down e)) (sym E) (refl, refl))

  value : is_finite a ≡ true → HasValue (fin s m e) (is_negative a) (units_at (exponent a) (fraction a)) units_of_one
  value f = subst (λ (y : Float). HasValue y (is_negative a) (units_at (exponent a) (fraction a)) units_of_one) E (same_value a f)

  whole_is : is_finite a ≡ true → m * up e / down e ≡ units_at (exponent a) (fraction a) / units_of_one
  whole_is f = same_quotient (m * up e) (down e) (units_at (exponent a) (fraction a)) units_of_one (down_pos e) (pow_pos 1074) (value f).1

  told : is_finite a ≡ true → within_integer (with_sign s (m * up e / down e)) ≡ real_to_integer a
  told f = answer a (m * up e / down e) (whole_is f) s (sym (value f).0) f

least : (k w : ℕ) → k < 2 ^ 63 → w ≡ min k (2 ^ 63 - 1) → w ≡ k
least k w h e = omega arith

least-neg : (k : ℕ) → k ≤ 2 ^ 63 → min k (2 ^ 63) ≡ k
least-neg k h = omega arith

given_fin : (a : ℕ) (s : Bool) (m : ℕ) (e : ℤ) (w : ℕ) → of_bits binary64 a ≡ fin s m e → Inside (fin s m e) → is_finite a ≡ true → w ≡ of_z w64 (to_signed 63 (fin s m e)) → Some w ≡ real_to_integer a
unfolding lt le eq to_signed
given_fin a false m e w E i f h =
    let l = quotient_below (m * up e) (down e) (down_pos e) i.1 in
    ap Some (least _ w l h) ∙ within_pos _ l ∙ told a false m e E f
given_fin a true m e w E i f h =
    let l = quotient_at_most (m * up e) (down e) (down_pos e) i.0 in
    ap Some (h ∙ ap (λ (n : ℕ). of_z w64 (neg_ℤ (pos n))) (least-neg _ l)) ∙ within-neg _ l ∙ told a true m e E f

pub given : (a : ℕ) (x : Float) (w : ℕ) → of_bits binary64 a ≡ x → Inside x → w ≡ of_z w64 (to_signed 63 x) → Some w ≡ real_to_integer a
unfolding lt le eq
given a nan w E i h = cc
given a (inf true) w E i h = cc
given a (inf false) w E i h = cc
given a (fin s m e) w E i h = go (is_finite a) refl
  where
    go : (t : Bool) → is_finite a ≡ t → Some w ≡ real_to_integer a
    go true f = given_fin a s m e w E i f h
    go false f = absurd (finite a s m e E f)

refused_fin : (a : ℕ) (s : Bool) (m : ℕ) (e : ℤ) → of_bits binary64 a ≡ fin s m e → (Inside (fin s m e) → ⊥) → is_finite a ≡ true → None ≡ real_to_integer a
unfolding lt le eq
refused_fin a false m e E i f = go (ltb (m * up e * 1) (1 * 2 ^ 63 * down e)) refl
  where
    go : (t : Bool) → ltb (m * up e * 1) (1 * 2 ^ 63 * down e) ≡ t → None ≡ real_to_integer a
    go true t = absurd (i (rw (lt-ltb 0 (1 * 2 ^ 63 * down e + m * up e * 1) (omega (arith, down_pos e))), t))
    go false t = beyond_pos _ (quotient_from (m * up e) (down e) (down_pos e) t) ∙ told a false m e E f
refused_fin a true m e E i f = go (ltb (m * up e * 1) (1 * 2 ^ 63 * down e) || (eqb (1 * 2 ^ 63 * down e) (m * up e * 1) && true)) refl
  where
    go : (t : Bool) → ltb (m * up e * 1) (1 * 2 ^ 63 * down e) || (eqb (1 * 2 ^ 63 * down e) (m * up e * 1) && true) ≡ t → None ≡ real_to_integer a
    go true t = absurd (i (t, lt-ltb 0 (m * up e * 1 + 1 * 2 ^ 63 * down e) (omega (arith, down_pos e))))
    go false t =
        beyond_neg _ (subst (λ (n : ℕ). 2 ^ 63 < n) (sym (whole_is a true m e E f)) (spaced-units a (units_above (m * up e) (down e) (down_pos e) _ t (value a true m e E f).1)))
        ∙ told a true m e E f

pub refused : (a : ℕ) (x : Float) → of_bits binary64 a ≡ x → (Inside x → ⊥) → None ≡ real_to_integer a
refused a x E i = go (is_finite a) refl x E i
  where
    go : (t : Bool) → is_finite a ≡ t → (x : Float) → of_bits binary64 a ≡ x → (Inside x → ⊥) → None ≡ real_to_integer a
    go false f x E i = unanswered a f
    go true f nan E i = absurd (subst (λ (y : Float). HasValue y (is_negative a) (units_at (exponent a) (fraction a)) units_of_one) E (same_value a f))
    go true f (inf s) E i = absurd (subst (λ (y : Float). HasValue y (is_negative a) (units_at (exponent a) (fraction a)) units_of_one) E (same_value a f))
    go true f (fin s m e) E i = refused_fin a s m e E i f
