-- 02, P5: CONVERT at its edges, computed; the quoted words are 02's. The word of -n is 2 ^ 64 - n.
use Rattle.std.specs.Prelude.{◌≡◌, ◌+◌, ◌-◌, ◌^◌, refl, Some, None}
use Rattle.std.specs.Float.Ieee.{of_int, to_bits}
use Rattle.words.specs.TwosComplement.{signed, word_of}
use Rattle.words.specs.Convert.{integer_to_real, units_at, units, truncated, within_integer, real_to_integer}

-- ---- "the nearest binary64, ties to even"

-- 2 ^ 53 + 1 lies half way, and 2 ^ 53 is the even one
half_way_down : integer_to_real (2 ^ 53 + 1) ≡ 0x4340_0000_0000_0000
unfolding integer_to_real signed of_int to_bits
half_way_down = refl

-- 2 ^ 53 + 3 goes up to 2 ^ 53 + 4
half_way_up : integer_to_real (2 ^ 53 + 3) ≡ 0x4340_0000_0000_0002
unfolding integer_to_real signed of_int to_bits
half_way_up = refl

minus_half_way_down : integer_to_real (2 ^ 64 - (2 ^ 53 + 1)) ≡ 0xC340_0000_0000_0000
unfolding integer_to_real signed of_int to_bits
minus_half_way_down = refl

minus_half_way_up : integer_to_real (2 ^ 64 - (2 ^ 53 + 3)) ≡ 0xC340_0000_0000_0002
unfolding integer_to_real signed of_int to_bits
minus_half_way_up = refl

-- +0.0
no_size : integer_to_real 0 ≡ 0
unfolding integer_to_real signed of_int to_bits
no_size = refl

-- 2 ^ 63 - 1 becomes 2 ^ 63, which is no INTEGER
greatest_integer : integer_to_real (2 ^ 63 - 1) ≡ 0x43E0_0000_0000_0000
unfolding integer_to_real signed of_int to_bits
greatest_integer = refl

first_outside : real_to_integer 0x43E0_0000_0000_0000 ≡ None
unfolding real_to_integer within_integer truncated units units_at word_of
first_outside = refl

-- -2 ^ 63, there and back
least_integer : integer_to_real (2 ^ 63) ≡ 0xC3E0_0000_0000_0000
unfolding integer_to_real signed of_int to_bits
least_integer = refl

least_inside : real_to_integer 0xC3E0_0000_0000_0000 ≡ Some (2 ^ 63)
unfolding real_to_integer within_integer truncated units units_at word_of
least_inside = refl

-- ---- "drops the fraction"

-- the REAL before 2 ^ 63
last_inside : real_to_integer 0x43DF_FFFF_FFFF_FFFF ≡ Some (2 ^ 63 - 1024)
unfolding real_to_integer within_integer truncated units units_at word_of
last_inside = refl

-- -2.5
minus_two_and_a_half : real_to_integer 0xC004_0000_0000_0000 ≡ Some (2 ^ 64 - 2)
unfolding real_to_integer within_integer truncated units units_at word_of
minus_two_and_a_half = refl

-- -0.9 and -0.0
minus_less_than_one : real_to_integer 0xBFEC_CCCC_CCCC_CCCD ≡ Some 0
unfolding real_to_integer within_integer truncated units units_at word_of
minus_less_than_one = refl

minus_zero : real_to_integer 0x8000_0000_0000_0000 ≡ Some 0
unfolding real_to_integer within_integer truncated units units_at word_of
minus_zero = refl

-- ---- "a NaN, an infinity"

not_a_number : real_to_integer 0x7FF8_0000_0000_0000 ≡ None
unfolding real_to_integer
not_a_number = refl

infinity : real_to_integer 0x7FF0_0000_0000_0000 ≡ None
unfolding real_to_integer
infinity = refl
