-- Laws of words for every width w. 01, The laboratory's note: "Width facts are shown for general width, then used at 1, 8 and 64"; that use
-- is in `Fits.antt`. Assumes nothing.
use Rattle.std.specs.Prelude.{◌≡◌, ℕ, zero, suc, ◌-◌, ◌*◌, ◌%◌, ◌^◌, ◌<◌, ◌≤◌, Bool, true, false, cond, ◌⊎◌, ℤ, pos, negsuc, ◌-ℤ◌, ◌==◌, nat_lt, Some, None}
use Rattle.std.proofs.Math.Path.{refl}
use Rattle.std.proofs.Common.{ap, ◌∙◌, div-le_self, lt_of_le_of_lt, zero-lt-suc, zero-add, lt-ltb, le-ltb, lit≤}
use Rattle.std.proofs.Math.Logic.{inl, inr}
use Rattle.std.proofs.Math.Nat.{mod-lt, mod-eq_of_lt, two-pow-succ}
use native.Mathlib.Omega.{arith}
use Rattle.std.proofs.Math.Pow.{pow_pos, pow-sub-lt, ones_lt, ones_sub-lt}
use Rattle.std.specs.Int.Bits.{and_lt, or_lt, xor_lt}
use Rattle.std.specs.Int.Signed.{shr_z, mag}
use Rattle.words.specs.Kind.{width_of}
use Rattle.words.specs.TwosComplement.{signed, word_of}
use Rattle.words.specs.Integer.{integer_is_negative}
use Rattle.words.specs.Width.{ones, low_bits, not_at, and_at, ior_at, xor_at, shl_at, shr_at, ashr_at, top_bits, shifted}

-- no kind is wider than a u64
pub width_at_most : (kind : ℕ) → width_of kind ≤ 64
unfolding width_of
width_at_most kind = at (kind == 0) (kind == 2)
  where
    at : (a b : Bool) → cond a 1 (cond b 8 64) ≤ 64
    at true b = lit≤ tt
    at false true = lit≤ tt
    at false false = lit≤ tt

either : (w : ℕ) (t : Bool) {x y : ℕ} → x < 2 ^ w → y < 2 ^ w → cond t x y < 2 ^ w
either w true h k = h
either w false h k = k

module _ (w : ℕ) where
  -- ---- each result is below 2 ^ w

  pub word_below : (z : ℤ) → word_of w z < 2 ^ w
  unfolding word_of
  word_below (pos n) = mod-lt n (pow_pos w)
  word_below (negsuc n) = pow-sub-lt w (zero-lt-suc _)

  pub low_below : (v : ℕ) → low_bits w v < 2 ^ w
  unfolding low_bits
  low_below v = mod-lt v (pow_pos w)

  pub not-below : (v : ℕ) → not_at w v < 2 ^ w
  unfolding not_at
  not-below v = ones_sub-lt w (low_bits w v)

  pub and_below : (v s : ℕ) → v < 2 ^ w → and_at w v s < 2 ^ w
  unfolding and_at
  and_below v s h = and_lt w v (low_bits w s) h (low_below s)

  pub ior-below : (v s : ℕ) → v < 2 ^ w → ior_at w v s < 2 ^ w
  unfolding ior_at
  ior-below v s h = or_lt w v (low_bits w s) h (low_below s)

  pub xor_below : (v s : ℕ) → v < 2 ^ w → xor_at w v s < 2 ^ w
  unfolding xor_at
  xor_below v s h = xor_lt w v (low_bits w s) h (low_below s)

  pub shl_below : (v n : ℕ) → shl_at w v n < 2 ^ w
  unfolding shl_at
  shl_below v n = either w (nat_lt n w) (low_below (v * 2 ^ n)) (pow_pos w)

  pub shr_below : (v n : ℕ) → v < 2 ^ w → shr_at w v n < 2 ^ w
  unfolding shr_at
  shr_below v n h = either w (nat_lt n w) (lt_of_le_of_lt (div-le_self v (2 ^ n)) h) (pow_pos w)

  pub top_below : (v : ℕ) → top_bits w v < 2 ^ w
  unfolding top_bits
  top_below v = either w (nat_lt (low_bits w v * 2) (2 ^ w)) (pow_pos w) (ones_lt w)

  pub ashr-below : (v n : ℕ) → ashr_at w v n < 2 ^ w
  unfolding ashr_at
  ashr-below v n = either w (nat_lt n w) (word_below (shr_z (signed w (low_bits w v)) (2 ^ n))) (top_below v)

  -- ---- at or past the width

  pub shl_past : (v n : ℕ) → w ≤ n → shl_at w v n ≡ 0
  unfolding shl_at
  shl_past v n h = rw (le-ltb n w h)

  pub shr_past : (v n : ℕ) → w ≤ n → shr_at w v n ≡ 0
  unfolding shr_at
  shr_past v n h = rw (le-ltb n w h)

  pub ashr_past : (v n : ℕ) → w ≤ n → ashr_at w v n ≡ top_bits w v
  unfolding ashr_at
  ashr_past v n h = rw (le-ltb n w h)

  -- copies of the top bit are all zeros or all ones
  pub top_copies : (v : ℕ) → (top_bits w v ≡ 0) ⊎ (top_bits w v ≡ ones w)
  unfolding top_bits
  top_copies v = at (nat_lt (low_bits w v * 2) (2 ^ w))
    where
      at : (t : Bool) → (cond t 0 (ones w) ≡ 0) ⊎ (cond t 0 (ones w) ≡ ones w)
      at true = inl refl
      at false = inr refl

  -- ---- the number of a word

  pub signed_pos : (v : ℕ) → v * 2 < 2 ^ w → signed w v ≡ pos v
  unfolding signed
  signed_pos v h = rw (lt-ltb (v * 2) (2 ^ w) h)

  pub signed-neg : (v : ℕ) → 2 ^ w ≤ v * 2 → signed w v ≡ negsuc (2 ^ w - suc v)
  unfolding signed
  signed-neg v h = rw (le-ltb (v * 2) (2 ^ w) h)

  -- ---- a word that fits

  -- its low bits are the word itself, so NOT is all ones less the word
  pub low_fits : (v : ℕ) → v < 2 ^ w → low_bits w v ≡ v
  unfolding low_bits
  low_fits v h = mod-eq_of_lt h

  pub not-fits : (v : ℕ) → v < 2 ^ w → not_at w v ≡ ones w - v
  unfolding not_at
  not-fits v h = rw (low_fits v h)

  -- its number has the word back
  pub word-signed : (v : ℕ) → v < 2 ^ w → word_of w (signed w v) ≡ v
  unfolding word_of signed
  word-signed v h = at (nat_lt (v * 2) (2 ^ w))
    where
      at : (t : Bool) → word_of w (cond t (pos v) (negsuc (2 ^ w - suc v))) ≡ v
      at true = mod-eq_of_lt h
      at false = let q : (2 ^ w - suc v) % 2 ^ w ≡ 2 ^ w - suc v = mod-eq_of_lt (omega (arith, pow_pos w)) in omega arith

-- NOT of the word of z is the word of -1-z
pub not-number : (w : ℕ) (z : ℤ) → not_at w (word_of w z) ≡ word_of w (negsuc 0 -ℤ z)
unfolding word_of
not-number w z = not-fits w (word_of w z) (word_below w z) ∙ at z
  where
    at : (z : ℤ) → ones w - word_of w z ≡ word_of w (negsuc 0 -ℤ z)
    at (pos zero) = omega arith
    at (pos (suc n)) = rw (zero-add n) (omega arith)
    at (negsuc n) =
        let same : suc n - 1 ≡ n = omega arith in
        rw (le-ltb (suc n) 1 (zero-lt-suc n), same) (omega (arith, mod-lt n (pow_pos w)))

-- a number from -2 ^ k to 2 ^ k - 1 has a word of k + 1 bits, and that word's number is the number (`mag` of n and of -1-n is n)
pub signed_word : (k : ℕ) (z : ℤ) → mag z < 2 ^ k → signed (suc k) (word_of (suc k) z) ≡ z
unfolding word_of
signed_word k (pos n) h =
    let p : n < 2 ^ suc k = omega (arith, two-pow-succ k) in
    ap (signed (suc k)) (mod-eq_of_lt p) ∙ signed_pos (suc k) n (omega (arith, two-pow-succ k))
signed_word k (negsuc n) h =
    let p : n < 2 ^ suc k = omega (arith, two-pow-succ k) in
    ap (λ (m : ℕ). signed (suc k) (2 ^ suc k - suc m)) (mod-eq_of_lt p)
    ∙ signed-neg (suc k) (2 ^ suc k - suc n) (omega (arith, two-pow-succ k))
    ∙ ap negsuc (omega arith)

-- ---- the answer of a shift

pub shifted-word : (shift : ℕ → ℕ) (count r : ℕ) → shifted shift count ≡ Some r → shift count ≡ r
unfolding shifted
shifted-word shift count r e = at (integer_is_negative count) e
  where
    at : (t : Bool) → cond t None (Some (shift count)) ≡ Some r → shift count ≡ r
    at true q = cc
    at false q = cc
