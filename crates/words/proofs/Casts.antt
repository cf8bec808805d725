-- INTEGER words beside the library's signed casts and wrapping calls. Assumes nothing.
use Rattle.std.proofs.Common.{◌≡◌, ℕ, zero, suc, ◌+◌, ◌-◌, ◌*◌, ◌/◌, ◌%◌, ◌^◌, ◌<◌, ◌≤◌, ℤ, pos, negsuc, ◌+ℤ◌, ◌-ℤ◌, ◌*ℤ◌, neg_ℤ, nat_abs, w64, to_z, of_z, sym, refl, ap, ap₂, ◌∙◌, le_trans, mod-lt, div-le_self, arith, le-ltb, pow_pos}
use Rattle.std.specs.Int.{int_wrap, int_wrapping_div}
use Rattle.std.specs.Int.RustNames.{int_div}
use Rattle.std.proofs.lemmas.Int.{ints, to_z_pos, of_z-to_z, wrapping_add-bits, wrapping_sub-bits, wrapping_mul-bits}
use Rattle.words.specs.TwosComplement.{signed, word_of}
use Rattle.words.specs.Integer.{number, word, integer_add, integer_subtract, integer_multiply, integer_negate, integer_quotient}
use Rattle.words.specs.WidthLaws.{word_below}
use Rattle.words.proofs.Signs.{by_sign}

number_is : (a : ℕ) → to_z w64 a ≡ number a
number_is a =
    by_sign 64 (λ (z : ℤ). to_z w64 a ≡ z) a
    (λ p. to_z_pos w64 a (omega arith))
    (λ p. rw (le-ltb a (2 ^ 63) (omega arith)))

-- a word's number is its signed cast
pub number_cast : (a : ℕ) (x : ℤ) → a < 2 ^ 64 → x ≡ to_z w64 a → to_z w64 (of_z w64 x) ≡ number a
number_cast a x h e = ap (λ (z : ℤ). to_z w64 (of_z w64 z)) e ∙ ap (to_z w64) (of_z-to_z w64 a h) ∙ number_is a

-- ---- sums, differences, products and negatives

wrapped : (z : ℤ) → of_z w64 (int_wrap w64 z) ≡ word z
unfolding int_wrap word_of
wrapped (pos n) = of_z-to_z w64 (n % 2 ^ 64) (mod-lt n (pow_pos 64))
wrapped (negsuc n) = of_z-to_z w64 (2 ^ 64 - 1 - n % 2 ^ 64) (omega arith) ∙ omega arith

left : (r : ℕ) (z : ℤ) → r < 2 ^ 64 → to_z w64 r ≡ int_wrap w64 z → r ≡ word z
left r z h e = sym (of_z-to_z w64 r h) ∙ ap (of_z w64) e ∙ wrapped z

from_zero : (z : ℤ) → pos 0 +ℤ z ≡ z
from_zero z = omega (arith, ints)

module _ (a b : ℕ) (ha : a < 2 ^ 64) (hb : b < 2 ^ 64) where
  pub add-word : (a + b) % 2 ^ 64 ≡ integer_add a b
  unfolding integer_add
  add-word = left _ _ (mod-lt (a + b) (pow_pos 64)) (wrapping_add-bits w64 a b ha hb) ∙ ap₂ (λ (x y : ℤ). word (x +ℤ y)) (number_is a) (number_is b)

  pub sub-word : (a + (2 ^ 64 - b)) % 2 ^ 64 ≡ integer_subtract a b
  unfolding integer_subtract
  sub-word = left _ _ (mod-lt (a + (2 ^ 64 - b)) (pow_pos 64)) (wrapping_sub-bits w64 a b ha hb) ∙ ap₂ (λ (x y : ℤ). word (x -ℤ y)) (number_is a) (number_is b)

  pub mul-word : a * b % 2 ^ 64 ≡ integer_multiply a b
  unfolding integer_multiply
  mul-word = left _ _ (mod-lt (a * b) (pow_pos 64)) (wrapping_mul-bits w64 a b ha hb) ∙ ap₂ (λ (x y : ℤ). word (x *ℤ y)) (number_is a) (number_is b)

pub neg-word : (a r : ℕ) → a < 2 ^ 64 → r < 2 ^ 64 → (r + a) % 2 ^ 64 ≡ 0 → r ≡ integer_negate a
unfolding integer_negate integer_subtract signed
neg-word a r ha hr e =
    (let s : r ≡ (0 + (2 ^ 64 - a)) % 2 ^ 64 = omega arith in s)
    ∙ sub-word 0 a (omega arith) ha
    ∙ ap word (from_zero (neg_ℤ (number a)))

-- ---- quotients: their size is at most 2 ^ 63

size-neg : (n : ℕ) → nat_abs (neg_ℤ (pos n)) ≡ n
size-neg zero = refl
size-neg (suc n) = refl

size-div : (x y : ℤ) → nat_abs (int_div x y) ≤ nat_abs x
size-div (pos a) (pos b) = div-le_self a b
size-div (pos a) (negsuc b) = rw (size-neg (a / suc b)) (div-le_self a (suc b))
size-div (negsuc a) (pos b) = rw (size-neg (suc a / b)) (div-le_self (suc a) b)
size-div (negsuc a) (negsuc b) = div-le_self (suc a) (suc b)

size_number : (a : ℕ) → a < 2 ^ 64 → nat_abs (number a) ≤ 2 ^ 63
size_number a h = by_sign 64 (λ (z : ℤ). nat_abs z ≤ 2 ^ 63) a (λ p. omega arith) (λ p. omega arith)

small : (z : ℤ) → nat_abs z ≤ 2 ^ 63 → of_z w64 z ≡ word z
unfolding word_of
small (pos n) h = omega arith
small (negsuc n) h = omega arith

pub quotient-word : (a b : ℕ) (x y q : ℤ) (r : ℕ) → a < 2 ^ 64 → b < 2 ^ 64
    → x ≡ to_z w64 a → y ≡ to_z w64 b → q ≡ int_wrapping_div w64 (to_z w64 (of_z w64 x)) (to_z w64 (of_z w64 y)) → r ≡ of_z w64 (to_z w64 (of_z w64 q)) → r ≡ integer_quotient a b
unfolding integer_quotient
quotient-word a b x y q r ha hb e f g h =
    let z = int_div (number a) (number b) in
    let s : of_z w64 z ≡ word z = small z (le_trans (size-div (number a) (number b)) (size_number a ha)) in
    let t : of_z w64 (to_z w64 (word z)) ≡ word z = of_z-to_z w64 (word z) (word_below 64 z) in
    let p : q ≡ to_z w64 (word z) = g ∙ ap₂ (int_wrapping_div w64) (number_cast a x ha e) (number_cast b y hb f) ∙ ap (to_z w64) s in
    h ∙ ap (λ (u : ℤ). of_z w64 (to_z w64 (of_z w64 u))) p ∙ ap (λ (n : ℕ). of_z w64 (to_z w64 n)) t ∙ t

-- for the functions of integer.rt
pub ruleset operators = (number_cast, add-word, sub-word, mul-word, neg-word, quotient-word)
