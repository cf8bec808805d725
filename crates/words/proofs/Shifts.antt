-- The shifts as the code computes them in words of 64 bits, at every width up to 64. Assumes nothing.
use Rattle.std.proofs.Common.{◌≡◌, ℕ, suc, ◌+◌, ◌-◌, ◌*◌, ◌/◌, ◌%◌, ◌^◌, ◌<◌, ◌≤◌, Bool, true, false, cond, ltb, sym, refl, ap, ◌∙◌, subst, ap₂, lt_of_le_of_lt, mod-lt, mod-eq_of_lt, div-le_self, arith, pow_pos, le-ltb, lt-ltb}
use Rattle.std.proofs.Math.Pow.{mod-mod-pow}
use Rattle.words.specs.TwosComplement.{word_of}
use Rattle.words.specs.Width.{ones, low_bits, top_bits, shl_at, shr_at, ashr_at}
use Rattle.words.specs.WidthLaws.{width_at_most, low_below, signed_pos, signed-neg}

module _ (w v n : ℕ) where
  pub shl_in : w ≤ 64 → n < w → low_bits w (v * 2 ^ n % 2 ^ 64) ≡ shl_at w v n
  unfolding shl_at low_bits
  shl_in h l =
      let e : (64 - w) + w ≡ 64 = omega arith in
      rw (lt-ltb n w l) (subst (λ (m : ℕ). v * 2 ^ n % 2 ^ m % 2 ^ w ≡ v * 2 ^ n % 2 ^ w) e (mod-mod-pow (v * 2 ^ n) (64 - w) w))

  pub shr_le : (r : ℕ) → r ≡ shr_at w v n → r ≤ v
  unfolding shr_at
  shr_le r e = rw e (at (ltb n w))
    where
      at : (t : Bool) → cond t (v / 2 ^ n) 0 ≤ v
      at true = div-le_self v (2 ^ n)
      at false = omega arith

  -- with the top bit clear
  ashr_pos : low_bits w v * 2 < 2 ^ w → shr_at w (low_bits w v) n ≡ ashr_at w v n
  unfolding shr_at ashr_at low_bits top_bits word_of
  ashr_pos h = rw (signed_pos w (v % 2 ^ w) h, lt-ltb (v % 2 ^ w * 2) (2 ^ w) h) (at (ltb n w))
    where
      at : (t : Bool) → cond t (v % 2 ^ w / 2 ^ n) 0 ≡ cond t (v % 2 ^ w / 2 ^ n % 2 ^ w) 0
      at true = sym (mod-eq_of_lt (lt_of_le_of_lt (div-le_self (v % 2 ^ w) (2 ^ n)) (mod-lt v (pow_pos w))))
      at false = refl

  -- with the top bit set, as the complement of the complement
  ashr-neg : 2 ^ w ≤ low_bits w v * 2 → ones w - shr_at w (ones w - low_bits w v) n ≡ ashr_at w v n
  unfolding shr_at ashr_at low_bits top_bits word_of
  ashr-neg h = rw (signed-neg w (v % 2 ^ w) h, le-ltb (v % 2 ^ w * 2) (2 ^ w) h) (at (ltb n w))
    where
      at : (t : Bool)
          → ones w - cond t ((ones w - v % 2 ^ w) / 2 ^ n) 0
          ≡ cond t (2 ^ w - suc ((2 ^ w - suc (v % 2 ^ w)) / 2 ^ n % 2 ^ w)) (ones w)
      at true =
          let q : (2 ^ w - suc (v % 2 ^ w)) / 2 ^ n < 2 ^ w =
          lt_of_le_of_lt (div-le_self (2 ^ w - suc (v % 2 ^ w)) (2 ^ n)) (omega (arith, pow_pos w)) in
          ap (λ (m : ℕ). ones w - m / 2 ^ n) {x = ones w - v % 2 ^ w} {y = 2 ^ w - suc (v % 2 ^ w)} (omega arith)
          ∙ omega (arith, q, mod-eq_of_lt q)
      at false = omega arith

  -- the same from the code's values: all ones, the low bits, and the logical shift r
  module _ (all low r : ℕ) (ones_are : all ≡ ones w) (low_are : low ≡ low_bits w v) where
    pub ashr_clear : r ≡ shr_at w low n → low ≤ all - low → r ≡ ashr_at w v n
    ashr_clear e h = e ∙ ap (λ (x : ℕ). shr_at w x n) low_are ∙ ashr_pos (omega (arith, pow_pos w))

    pub ashr-set : r ≡ shr_at w (all - low) n → all - low < low → all - r ≡ ashr_at w v n
    ashr-set e h =
        ap₂ ◌-◌ ones_are (e ∙ ap₂ (λ (x y : ℕ). shr_at w (x - y) n) ones_are low_are) ∙ ashr-neg (omega arith)

-- for the functions of width.rt
pub ruleset shifts = (width_at_most, low_below, shl_in, shr_le, ashr_clear, ashr-set)
