-- Every INTEGER result and every result of bits is a word of its kind: the width laws used at 1, 8 and 64. Assumes nothing.
use Rattle.std.specs.Prelude.{◌≡◌, ℕ, ◌^◌, ◌<◌, Bool, true, false, cond, ◌&&◌, ◌+ℤ◌, ◌-ℤ◌, ◌*ℤ◌, neg_ℤ, ◌==◌, int_div, nat_lt, refl, Some, None}
use Rattle.std.proofs.Common.{subst, lit<}
use Rattle.std.proofs.lemmas.Bool.{false≢true}
use borrow.Author.Tests.{ltb-true, lt-ltb}
use Rattle.words.specs.Kind.{width_of, fits_kind}
use Rattle.words.specs.Integer.{number, integer_add, integer_subtract, integer_multiply, integer_negate, integer_quotient, integer_divide}
use Rattle.words.specs.Width.{not_at, and_at, ior_at, xor_at, shl_at, shr_at, ashr_at, shifted, shift_left, shift_right, shift_right_arithmetic}
use Rattle.words.specs.WidthLaws.{word_below, not-below, and_below, ior-below, xor_below, shl_below, shr_below, ashr-below, shifted-word}

-- ---- INTEGER results

pub integer_add-below : (a b : ℕ) → integer_add a b < 2 ^ 64
unfolding integer_add
integer_add-below a b = word_below 64 (number a +ℤ number b)

pub integer_subtract-below : (a b : ℕ) → integer_subtract a b < 2 ^ 64
unfolding integer_subtract
integer_subtract-below a b = word_below 64 (number a -ℤ number b)

pub integer_multiply-below : (a b : ℕ) → integer_multiply a b < 2 ^ 64
unfolding integer_multiply
integer_multiply-below a b = word_below 64 (number a *ℤ number b)

pub integer_negate-below : (a : ℕ) → integer_negate a < 2 ^ 64
unfolding integer_negate
integer_negate-below a = word_below 64 (neg_ℤ (number a))

pub integer_divide-word : (a b r : ℕ) → integer_divide a b ≡ Some r → integer_quotient a b ≡ r
unfolding integer_divide
integer_divide-word a b r e = at (b == 0) e
  where
    at : (t : Bool) → cond t None (Some (integer_quotient a b)) ≡ Some r → integer_quotient a b ≡ r
    at true q = cc
    at false q = cc

pub integer_divide-below : (a b r : ℕ) → integer_divide a b ≡ Some r → r < 2 ^ 64
unfolding integer_quotient
integer_divide-below a b r e =
    subst (λ (n : ℕ). n < 2 ^ 64) (integer_divide-word a b r e) (word_below 64 (int_div (number a) (number b)))

-- ---- a word that fits its kind, as two bounds and back

both : (a b : Bool) → a && b ≡ true → (a ≡ true) × (b ≡ true)
both true b e = (refl, e)
both false b e = absurd (false≢true e)

module _ (kind word : ℕ) where
  pub fits_of : kind < 4 → word < 2 ^ width_of kind → fits_kind kind word ≡ true
  unfolding fits_kind
  fits_of k h = rw (lt-ltb kind 4 k, lt-ltb word (2 ^ width_of kind) h)

  pub fits-kind : fits_kind kind word ≡ true → kind < 4
  unfolding fits_kind
  fits-kind e = ltb-true kind 4 (both _ _ e).0

  pub fits_below : fits_kind kind word ≡ true → word < 2 ^ width_of kind
  unfolding fits_kind
  fits_below e = ltb-true word (2 ^ width_of kind) (both (nat_lt kind 4) _ e).1

pub integer-fits : (word : ℕ) → word < 2 ^ 64 → fits_kind 1 word ≡ true
unfolding width_of
integer-fits word h = fits_of 1 word (lit< tt) h

pub real-fits : (word : ℕ) → word < 2 ^ 64 → fits_kind 3 word ≡ true
unfolding width_of
real-fits word h = fits_of 3 word (lit< tt) h

-- ---- bits, at the width of a kind

module _ (kind v : ℕ) (f : fits_kind kind v ≡ true) where
  small : v < 2 ^ width_of kind
  small = fits_below kind v f

  fit : (r : ℕ) → r < 2 ^ width_of kind → fits_kind kind r ≡ true
  fit r h = fits_of kind r (fits-kind kind v f) h

  pub not_at-fits : fits_kind kind (not_at (width_of kind) v) ≡ true
  not_at-fits = fit _ (not-below (width_of kind) v)

  pub and_at-fits : (s : ℕ) → fits_kind kind (and_at (width_of kind) v s) ≡ true
  and_at-fits s = fit _ (and_below (width_of kind) v s small)

  pub ior_at-fits : (s : ℕ) → fits_kind kind (ior_at (width_of kind) v s) ≡ true
  ior_at-fits s = fit _ (ior-below (width_of kind) v s small)

  pub xor_at-fits : (s : ℕ) → fits_kind kind (xor_at (width_of kind) v s) ≡ true
  xor_at-fits s = fit _ (xor_below (width_of kind) v s small)

  answer-fits : (shift : ℕ → ℕ) (count r : ℕ) → shift count < 2 ^ width_of kind → shifted shift count ≡ Some r → fits_kind kind r ≡ true
  answer-fits shift count r h e = fit r (subst (λ (n : ℕ). n < 2 ^ width_of kind) (shifted-word shift count r e) h)

  pub shift_left-fits : (count r : ℕ) → shift_left (width_of kind) v count ≡ Some r → fits_kind kind r ≡ true
  unfolding shift_left
  shift_left-fits count r e = answer-fits (shl_at (width_of kind) v) count r (shl_below (width_of kind) v count) e

  pub shift_right-fits : (count r : ℕ) → shift_right (width_of kind) v count ≡ Some r → fits_kind kind r ≡ true
  unfolding shift_right
  shift_right-fits count r e = answer-fits (shr_at (width_of kind) v) count r (shr_below (width_of kind) v count small) e

  pub shift_right_arithmetic-fits : (count r : ℕ) → shift_right_arithmetic (width_of kind) v count ≡ Some r → fits_kind kind r ≡ true
  unfolding shift_right_arithmetic
  shift_right_arithmetic-fits count r e = answer-fits (ashr_at (width_of kind) v) count r (ashr-below (width_of kind) v count) e
