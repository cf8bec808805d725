-- NaN: its pattern as a result, and every pattern of one. 01, Machine, Comparison: "NaN is always 0". Assumes nothing.
use Rattle.std.specs.Prelude.{◌≡◌, refl, true, false, ℕ, T, Float}
use Rattle.std.proofs.Common.{sym, ◌∙◌, subst}
use Rattle.std.specs.Float.{nan, inf, fin, binary64}
use Rattle.std.specs.Float.Ieee.{is_nan, eq, le, lt, to_bits}
use Rattle.std.specs.Float.Ieee.Bits.{nan_bits_is}
use Rattle.reals.specs.Real.{real_is_nan, real_value, real_pattern, real_equal, real_greater_than_or_equal, real_greater_than, real_less_than_or_equal, real_less_than}

-- "a NaN result is 7FF8000000000000 (hexadecimal)"
pub nan_pattern : real_pattern nan ≡ 0x7FF8000000000000
unfolding to_bits
nan_pattern = refl

is_nan_lem : (x : Float) → T (is_nan x) → x ≡ nan
unfolding is_nan
is_nan_lem nan t = refl
is_nan_lem (inf s) t = absurd t
is_nan_lem (fin s m e) t = absurd t

-- a pattern of a NaN has the value `nan`
pub nan_value : (a : ℕ) → real_is_nan a ≡ true → real_value a ≡ nan
nan_value a e = is_nan_lem (real_value a) (subst T (sym (sym (nan_bits_is binary64 a) ∙ e)) tt)

eq_nan : (x : Float) → eq x nan ≡ false
unfolding eq
eq_nan nan = refl
eq_nan (inf s) = refl
eq_nan (fin s m e) = refl

lt_nan : (x : Float) → lt x nan ≡ false
unfolding lt
lt_nan nan = refl
lt_nan (inf s) = refl
lt_nan (fin s m e) = refl

le_nan : (x : Float) → le x nan ≡ false
unfolding le
le_nan x = rw (lt_nan x, eq_nan x)

-- the five comparisons, all false
pub record Unordered (a b : ℕ) : Type 0 where
  pub equal : real_equal a b ≡ false
  pub greater_than_or_equal_lem : real_greater_than_or_equal a b ≡ false
  pub greater_than_lem : real_greater_than a b ≡ false
  pub less_than_or_equal_lem : real_less_than_or_equal a b ≡ false
  pub less_than_lem : real_less_than a b ≡ false

module _ (a b : ℕ) where
  pub nan_left : real_is_nan a ≡ true → Unordered a b
  unfolding real_equal real_greater_than_or_equal real_greater_than real_less_than_or_equal real_less_than eq lt le
  nan_left e = record {
    equal = rw (nan_value a e);
    greater_than_or_equal_lem = rw (nan_value a e) (le_nan (real_value b));
    greater_than_lem = rw (nan_value a e) (lt_nan (real_value b));
    less_than_or_equal_lem = rw (nan_value a e);
    less_than_lem = rw (nan_value a e);
  }

  pub nan_right : real_is_nan b ≡ true → Unordered a b
  unfolding real_equal real_greater_than_or_equal real_greater_than real_less_than_or_equal real_less_than eq lt le
  nan_right e = record {
    equal = rw (nan_value b e) (eq_nan (real_value a));
    greater_than_or_equal_lem = rw (nan_value b e);
    greater_than_lem = rw (nan_value b e);
    less_than_or_equal_lem = rw (nan_value b e) (le_nan (real_value a));
    less_than_lem = rw (nan_value b e) (lt_nan (real_value a));
  }
