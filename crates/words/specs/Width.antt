-- The operators on the bits of words of w bits.
use Rattle.std.specs.Prelude.{ℕ, ◌-◌, ◌*◌, ◌/◌, ◌%◌, ◌^◌, cond, bit_and, bit_or, bit_xor, nat_lt, Option, Some, None}
use Rattle.std.specs.Int.Signed.{shr_z}
use Rattle.words.specs.TwosComplement.{signed, word_of}
use Rattle.words.specs.Integer.{integer_is_negative}

-- The answer of a shift: the count is a whole word in two's complement. 01, Machine: "Shift counts use the whole value"; Turned down:
-- "16 negative shift count".
unfoldable pub shifted : (ℕ → ℕ) → ℕ → Option ℕ
shifted shift count = cond (integer_is_negative count) None (Some (shift count))

module _ (w : ℕ) where
  -- all bits set
  abbrev pub ones : ℕ
  ones = 2 ^ w - 1

  -- 01, Machine: "low bits at the destination's width".
  unfoldable pub low_bits : ℕ → ℕ
  low_bits v = v % 2 ^ w

  -- 01, Machine: "NOT: 1-v, 255-v, -1-v". At 64 bits all ones is the word of -1 (`not-number` of `WidthLaws.antt`).
  unfoldable pub not_at : ℕ → ℕ
  not_at v = ones - low_bits v

  -- 01, Machine: "And, Ior, Xor: source's low bits at the destination's width". v is the destination's word, s the source's.
  unfoldable pub and_at : ℕ → ℕ → ℕ
  and_at v s = bit_and v (low_bits s)

  unfoldable pub ior_at : ℕ → ℕ → ℕ
  ior_at v s = bit_or v (low_bits s)

  unfoldable pub xor_at : ℕ → ℕ → ℕ
  xor_at v s = bit_xor v (low_bits s)

  -- "Shl keeps the low bits at the destination's width"; "at or past the width Shl and Shr give 0".
  unfoldable pub shl_at : ℕ → ℕ → ℕ
  shl_at v n = cond (nat_lt n w) (low_bits (v * 2 ^ n)) 0

  unfoldable pub shr_at : ℕ → ℕ → ℕ
  shr_at v n = cond (nat_lt n w) (v / 2 ^ n) 0

  -- "copies of the top bit"
  unfoldable pub top_bits : ℕ → ℕ
  top_bits v = cond (nat_lt (low_bits v * 2) (2 ^ w)) 0 ones

  -- The number of the word, divided by 2 ^ n and rounded down; "at or past the width .. Ashr copies of the top bit".
  unfoldable pub ashr_at : ℕ → ℕ → ℕ
  ashr_at v n = cond (nat_lt n w) (word_of w (shr_z (signed w (low_bits v)) (2 ^ n))) (top_bits v)

  unfoldable pub shift_left : ℕ → ℕ → Option ℕ
  shift_left v count = shifted (shl_at v) count

  unfoldable pub shift_right : ℕ → ℕ → Option ℕ
  shift_right v count = shifted (shr_at v) count

  unfoldable pub shift_right_arithmetic : ℕ → ℕ → Option ℕ
  shift_right_arithmetic v count = shifted (ashr_at v) count
