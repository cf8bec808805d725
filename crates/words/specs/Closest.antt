-- 02, P5: "Proved over whole numbers: no binary64 value is closer to the integer than the one given." Counted in units of 2 ^ -1074, the least REAL above 0,
-- every finite REAL is a whole number (`units`, Convert.antt), and so is an INTEGER: z is z * 2 ^ 1074 of them. Proved in proofs/Closest.antt.
use Rattle.std.specs.Prelude.{◌≡◌, ℕ, ◌%◌, ◌≤◌, true, ◌≢◌, ℤ, pos, ◌-ℤ◌, ◌*ℤ◌, from_bits, unsigned_abs}
use Rattle.std.specs.Float.{binary64}
use Rattle.std.specs.Float.Ieee.Exact.{HasValue}
use Rattle.words.specs.Integer.{number}
use Rattle.words.specs.Convert.{integer_to_real, is_negative, exponent, fraction, is_finite, units_of_one, units_at, units}

-- how far apart two whole numbers are
unfoldable pub distance : ℤ → ℤ → ℕ
distance x y = unsigned_abs (x -ℤ y)

-- how far, in units, the REAL word v is from the INTEGER word a
abbrev pub away : ℕ → ℕ → ℕ
away v a = distance (units v) (number a *ℤ pos units_of_one)

-- a is an INTEGER word, v a REAL word
pub record Closest : Type 0 where
  -- what is given is neither an infinity nor a NaN
  pub finite : (a : ℕ) → is_finite (integer_to_real a) ≡ true
  -- no finite REAL is closer
  pub closest : (a v : ℕ) → is_finite v ≡ true → away (integer_to_real a) a ≤ away v a
  -- "ties to even": where another is as close, the last digit of the one given is 0
  pub even : (a v : ℕ) → is_finite v ≡ true → away v a ≡ away (integer_to_real a) a → units v ≢ units (integer_to_real a) → integer_to_real a % 2 ≡ 0
  -- the units are those of the value, ± so many / 2 ^ 1074, that REAL's operators and comparisons read from the word
  pub value : (v : ℕ) → is_finite v ≡ true → HasValue (from_bits binary64 v) (is_negative v) (units_at (exponent v) (fraction v)) units_of_one
