-- REAL words: binary64 patterns.
use Rattle.std.specs.Prelude.{ℕ, Bool, false, negsuc, Float}
use Rattle.std.specs.Float.Ieee as Ieee
use Rattle.std.specs.Float.{nan, inf, fin, binary64}

abbrev pub real_is_nan : ℕ → Bool
real_is_nan a = Ieee.nan_bits binary64 a

-- The value of a pattern: `nan` for every pattern of a NaN.
abbrev pub real_value : ℕ → Float
real_value a = Ieee.of_bits binary64 a

-- The pattern of a value. 01, Machine: "a NaN result is 7FF8000000000000 (hexadecimal)", which is `to_bits`'s pattern of `nan` (`nan_pattern`, RealLaws.antt).
abbrev pub real_pattern : Float → ℕ
real_pattern x = Ieee.to_bits binary64 x

-- 01, Machine, Arithmetic: "REAL: + - * / each rounded once, as IEEE 754 binary64".
unfoldable pub real_add : ℕ → ℕ → ℕ
real_add a b = real_pattern (Ieee.add binary64 (real_value a) (real_value b))

unfoldable pub real_subtract : ℕ → ℕ → ℕ
real_subtract a b = real_pattern (Ieee.sub binary64 (real_value a) (real_value b))

unfoldable pub real_multiply : ℕ → ℕ → ℕ
real_multiply a b = real_pattern (Ieee.mul binary64 (real_value a) (real_value b))

unfoldable pub real_divide : ℕ → ℕ → ℕ
real_divide a b = real_pattern (Ieee.div binary64 (real_value a) (real_value b))

-- "NEG likewise": the sign flips, of zero too.
unfoldable pub real_negate : ℕ → ℕ
real_negate a = real_pattern (Ieee.neg (real_value a))

-- 01, Machine, Comparison: "NaN is always 0"; IEEE 754's order, in which -0 equals +0.
unfoldable pub real_equal : ℕ → ℕ → Bool
real_equal a b = Ieee.eq (real_value a) (real_value b)

unfoldable pub real_greater_than_or_equal : ℕ → ℕ → Bool
real_greater_than_or_equal a b = Ieee.le (real_value b) (real_value a)

unfoldable pub real_greater_than : ℕ → ℕ → Bool
real_greater_than a b = Ieee.lt (real_value b) (real_value a)

unfoldable pub real_less_than_or_equal : ℕ → ℕ → Bool
real_less_than_or_equal a b = Ieee.le (real_value a) (real_value b)

unfoldable pub real_less_than : ℕ → ℕ → Bool
real_less_than a b = Ieee.lt (real_value a) (real_value b)

-- The value without its sign.
unfoldable pub size : Float → Float
size nan = nan
size (inf s) = inf false
size (fin s m e) = fin false m e

-- 1 * 2 ^ -52
abbrev pub epsilon : Float
epsilon = fin false 1 (negsuc 51)

-- 01, Type check, Frame: "imaginary part above 2^-52 in size is 3, NaN passes".
unfoldable pub real_above_epsilon : ℕ → Bool
real_above_epsilon a = Ieee.lt epsilon (size (real_value a))
