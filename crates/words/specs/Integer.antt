-- INTEGER words: the operators are those of the whole numbers; a result is taken modulo 2 ^ 64.
use Rattle.std.specs.Prelude.{ℕ, Bool, false, cond, ℤ, pos, negsuc, ◌+ℤ◌, ◌-ℤ◌, ◌*ℤ◌, neg_ℤ, ◌==◌, int_div, int_le, int_lt, Option, Some, None}
use Rattle.words.specs.TwosComplement.{signed, word_of}

abbrev pub number : ℕ → ℤ
number a = signed 64 a

abbrev pub word : ℤ → ℕ
word z = word_of 64 z

-- 01, Machine, Arithmetic: "INTEGER wraps modulo 2^64".
unfoldable pub integer_add : ℕ → ℕ → ℕ
integer_add a b = word (number a +ℤ number b)

unfoldable pub integer_subtract : ℕ → ℕ → ℕ
integer_subtract a b = word (number a -ℤ number b)

unfoldable pub integer_multiply : ℕ → ℕ → ℕ
integer_multiply a b = word (number a *ℤ number b)

-- "NEG likewise".
unfoldable pub integer_negate : ℕ → ℕ
integer_negate a = word (neg_ℤ (number a))

-- "division truncates to zero, -2^63 by -1 gives -2^63": the number 2 ^ 63 has the word of -2 ^ 63.
unfoldable pub integer_quotient : ℕ → ℕ → ℕ
integer_quotient a b = word (int_div (number a) (number b))

-- 01, Turned down: "15 INTEGER zero divisor".
unfoldable pub integer_divide : ℕ → ℕ → Option ℕ
integer_divide a b = cond (b == 0) None (Some (integer_quotient a b))

-- 01, Turned down, Running program: "14 index at or past length, or negative", "16 negative shift count".
unfoldable pub integer_is_negative : ℕ → Bool
integer_is_negative a = int_lt (number a) (pos 0)

abbrev pub eq_z : ℤ → ℤ → Bool
eq_z (pos a) (pos b) = a == b
eq_z (pos a) (negsuc b) = false
eq_z (negsuc a) (pos b) = false
eq_z (negsuc a) (negsuc b) = a == b

-- 01, Machine: "integer literals are compared whole", as signed numbers.
unfoldable pub integer_equal : ℕ → ℕ → Bool
integer_equal a b = eq_z (number a) (number b)

unfoldable pub integer_greater_than_or_equal : ℕ → ℕ → Bool
integer_greater_than_or_equal a b = int_le (number b) (number a)

unfoldable pub integer_greater_than : ℕ → ℕ → Bool
integer_greater_than a b = int_lt (number b) (number a)

unfoldable pub integer_less_than_or_equal : ℕ → ℕ → Bool
integer_less_than_or_equal a b = int_le (number a) (number b)

unfoldable pub integer_less_than : ℕ → ℕ → Bool
integer_less_than a b = int_lt (number a) (number b)
