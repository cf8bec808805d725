-- 02, P5: CONVERT between INTEGER words and REAL words. The quoted sentences are 02's.
use Rattle.std.specs.Prelude.{ℕ, zero, suc, ◌+◌, ◌-◌, ◌*◌, ◌/◌, ◌%◌, ◌^◌, Bool, cond, not, ◌&&◌, ℤ, pos, neg_ℤ, ◌==◌, int_div, int_le, nat_le, to_bits, Option, Some, None}
use Rattle.std.specs.Float.{binary64}
use Rattle.std.specs.Float.Ieee.{of_int}
use Rattle.words.specs.Integer.{number, word}

-- "INTEGER to REAL gives the nearest binary64, ties to even". `of_int` rounds once; Closest.antt says over whole numbers what comes of it.
unfoldable pub integer_to_real : ℕ → ℕ
integer_to_real a = to_bits binary64 (of_int binary64 (number a))

-- ---- the fields of a REAL word: its sign, 11 bits of exponent, 52 of fraction

abbrev pub is_negative : ℕ → Bool
is_negative a = nat_le (2 ^ 63) a

abbrev pub exponent : ℕ → ℕ
exponent a = a % 2 ^ 63 / 2 ^ 52

abbrev pub fraction : ℕ → ℕ
fraction a = a % 2 ^ 52

-- neither an infinity nor a NaN
abbrev pub is_finite : ℕ → Bool
is_finite a = not (exponent a == 2047)

-- ---- a finite REAL as a whole number of units of 2 ^ -1074, the least REAL above 0

-- so many make 1
abbrev pub units_of_one : ℕ
units_of_one = 2 ^ 1074

-- A REAL's size in units. An exponent above 0 stands for a leading digit before the fraction's 52, and the digits move up by one less than it.
unfoldable pub units_at : ℕ → ℕ → ℕ
units_at zero t = t
units_at (suc x) t = (2 ^ 52 + t) * 2 ^ x

abbrev pub with_sign : Bool → ℕ → ℤ
with_sign negative n = cond negative (neg_ℤ (pos n)) (pos n)

unfoldable pub units : ℕ → ℤ
units a = with_sign (is_negative a) (units_at (exponent a) (fraction a))

-- ---- REAL to INTEGER

-- "REAL to INTEGER drops the fraction": the quotient of whole numbers, toward 0
unfoldable pub truncated : ℕ → ℤ
truncated a = int_div (units a) (pos units_of_one)

-- no "value outside -2^63 to 2^63-1 after the fraction is dropped"
unfoldable pub within_integer : ℤ → Option ℕ
within_integer z = cond (int_le (neg_ℤ (pos (2 ^ 63))) z && int_le z (pos (2 ^ 63 - 1))) (Some (word z)) None

-- nor "a NaN, an infinity"
unfoldable pub real_to_integer : ℕ → Option ℕ
real_to_integer a = cond (is_finite a) (within_integer (truncated a)) None
