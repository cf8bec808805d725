-- Every REAL result is a word of 64 bits. Assumes nothing.
use Rattle.std.specs.Prelude.{ℕ, ◌^◌, ◌<◌, T, Float}
use Rattle.std.specs.Float.{binary64}
use Rattle.std.specs.Float.Ieee.{fits}
use Rattle.std.specs.Float.Ieee.Bits.{to_bits-lt, of_bits-fits}
use Rattle.std.specs.Float.Ieee.Fits.{add-fits, sub-fits, mul-fits, div-fits, neg-fits}
use Rattle.reals.specs.Real.{real_value, real_pattern, real_add, real_subtract, real_multiply, real_divide, real_negate}

pattern_below : (x : Float) → T (fits binary64 x) → real_pattern x < 2 ^ 64
pattern_below x h = to_bits-lt binary64 x h

pub real_add-below : (a b : ℕ) → real_add a b < 2 ^ 64
unfolding real_add
real_add-below a b = pattern_below _ (add-fits binary64 (real_value a) (real_value b))

pub real_subtract-below : (a b : ℕ) → real_subtract a b < 2 ^ 64
unfolding real_subtract
real_subtract-below a b = pattern_below _ (sub-fits binary64 (real_value a) (real_value b))

pub real_multiply-below : (a b : ℕ) → real_multiply a b < 2 ^ 64
unfolding real_multiply
real_multiply-below a b = pattern_below _ (mul-fits binary64 (real_value a) (real_value b))

pub real_divide-below : (a b : ℕ) → real_divide a b < 2 ^ 64
unfolding real_divide
real_divide-below a b = pattern_below _ (div-fits binary64 (real_value a) (real_value b))

pub real_negate-below : (a : ℕ) → real_negate a < 2 ^ 64
unfolding real_negate
real_negate-below a = pattern_below _ (neg-fits binary64 (real_value a) (of_bits-fits binary64 a))
