-- The claim of specs/Closest.antt. Assumes nothing.
use Rattle.std.proofs.Common.{◌≡◌, ℕ, suc, ◌-◌, ◌*◌, ◌%◌, ◌^◌, ◌<◌, ◌≤◌, Bool, true, false, ◌≢◌, ℤ, pos, negsuc, ◌*ℤ◌, nat_abs, sym, ◌∙◌, subst, ap₂, mod-lt, arith, lit≤, pow_pos}
use Rattle.std.specs.Float.Ieee.{binary64, round, of_int, to_bits}
use Rattle.words.specs.Integer.{number}
use Rattle.words.specs.Convert.{integer_to_real, is_negative, exponent, fraction, is_finite, units_of_one, units_at, with_sign, units}
use Rattle.words.specs.Closest.{distance, Closest}
use Rattle.words.proofs.Signs.{by_sign}
use Rattle.words.proofs.Gaps.{rounded, kept, Closer, digits_closer, closer_le, closer_tie}
use Rattle.words.proofs.Units.{round_read, by_digits, even-word, same_value}
use Rattle.words.proofs.Distances.{near, tie}

-- ---- the REAL of a size n below 2 ^ 64 with the sign s, beside a word v

abbrev real_of : Bool → ℕ → ℕ
real_of s n = to_bits binary64 (round binary64 s n 1)

closer : (n v : ℕ) → Closer 53 n (units_at (exponent v) (fraction v))
closer n v = by_digits (λ (z : ℕ). Closer 53 n z) (exponent v) (fraction v) (mod-lt v (pow_pos 52)) (λ q j h. digits_closer 53 n q j (lit≤ tt) h)

closer_zero : (n : ℕ) → Closer 53 n 0
closer_zero n = digits_closer 53 n 0 0 (lit≤ tt) (pow_pos 53)

real-units : (s : Bool) (n : ℕ) → n < 2 ^ 64 → units (real_of s n) ≡ with_sign s (rounded 53 (n * units_of_one))
unfolding units
real-units s n h = ap₂ with_sign (round_read s n h).sign (round_read s n h).size_is

near_real : (s : Bool) (n v : ℕ) → n < 2 ^ 64 → distance (units (real_of s n)) (with_sign s (n * units_of_one)) ≤ distance (units v) (with_sign s (n * units_of_one))
unfolding units
near_real s n v h =
    let d = n * units_of_one in
    subst (λ (z : ℤ). distance z (with_sign s d) ≤ distance (units v) (with_sign s d)) (sym (real-units s n h))
    (near s (is_negative v) (rounded 53 d) d (units_at (exponent v) (fraction v)) (closer_le 53 d (units_at (exponent v) (fraction v)) (closer d v)) (closer_le 53 d 0 (closer_zero d)))

tie_real : (s : Bool) (n v : ℕ) → n < 2 ^ 64 → distance (units v) (with_sign s (n * units_of_one)) ≡ distance (units (real_of s n)) (with_sign s (n * units_of_one))
    → units v ≢ units (real_of s n) → real_of s n % 2 ≡ 0
unfolding units
tie_real s n v h e d =
    let m = n * units_of_one in
    let r = rounded 53 m in
    let u = units_at (exponent v) (fraction v) in
    let is = real-units s n h in
    even-word (real_of s n) m (round_read s n h).size_is
    (tie r m u (kept 53 m % 2 ≡ 0) (closer_le 53 m 0 (closer_zero m)) (closer_tie 53 m u (closer m v)) (closer_tie 53 m 0 (closer_zero m)) s (is_negative v)
    (subst (λ (z : ℤ). distance (units v) (with_sign s m) ≡ distance z (with_sign s m)) is e)
    (λ g. d (g ∙ sym is)))

-- ---- by the sign of a whole number

near_int : (z : ℤ) (v : ℕ) → nat_abs z < 2 ^ 64 → distance (units (to_bits binary64 (of_int binary64 z))) (z *ℤ pos units_of_one) ≤ distance (units v) (z *ℤ pos units_of_one)
unfolding of_int
near_int (pos n) v h = near_real false n v h
near_int (negsuc n) v h = near_real true (suc n) v h

tie_int : (z : ℤ) (v : ℕ) → nat_abs z < 2 ^ 64 → distance (units v) (z *ℤ pos units_of_one) ≡ distance (units (to_bits binary64 (of_int binary64 z))) (z *ℤ pos units_of_one)
    → units v ≢ units (to_bits binary64 (of_int binary64 z)) → to_bits binary64 (of_int binary64 z) % 2 ≡ 0
unfolding of_int
tie_int (pos n) v h e d = tie_real false n v h e d
tie_int (negsuc n) v h e d = tie_real true (suc n) v h e d

finite_int : (z : ℤ) → nat_abs z < 2 ^ 64 → is_finite (to_bits binary64 (of_int binary64 z)) ≡ true
unfolding of_int
finite_int (pos n) h = (round_read false n h).finite
finite_int (negsuc n) h = (round_read true (suc n) h).finite

small : (a : ℕ) → nat_abs (number a) < 2 ^ 64
small a = by_sign 64 (λ (z : ℤ). nat_abs z < 2 ^ 64) a (λ h. below a h) (λ h. above a h)
  where
    below : (a : ℕ) → a * 2 < 2 ^ 64 → a < 2 ^ 64
    below a h = omega arith

    above : (a : ℕ) → 2 ^ 64 ≤ a * 2 → suc (2 ^ 64 - suc a) < 2 ^ 64
    above a h = omega arith

pub integer_to_real-closest : Closest
unfolding integer_to_real
integer_to_real-closest = record {
  finite = λ a. finite_int (number a) (small a);
  closest = λ a v f. near_int (number a) v (small a);
  even = λ a v f e d. tie_int (number a) v (small a) e d;
  value = same_value;
}
