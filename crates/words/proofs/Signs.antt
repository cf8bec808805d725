-- A word's number, by cases on its sign, at any width. Assumes nothing.
use Rattle.std.proofs.Common.{◌≡◌, ℕ, suc, ◌-◌, ◌*◌, ◌^◌, ◌<◌, ◌≤◌, Bool, true, false, cond, ltb, ℤ, pos, negsuc, refl, ltb-false, ltb-true}
use Rattle.words.specs.TwosComplement.{signed}

pub pick : (P : ℤ → Type 0) (t : Bool) (x y : ℤ) → (t ≡ true → P x) → (t ≡ false → P y) → P (cond t x y)
pick P true x y f g = f refl
pick P false x y f g = g refl

module _ (w : ℕ) where
  pub by_sign : (P : ℤ → Type 0) (a : ℕ) → (a * 2 < 2 ^ w → P (pos a)) → (2 ^ w ≤ a * 2 → P (negsuc (2 ^ w - suc a))) → P (signed w a)
  unfolding signed
  by_sign P a f g =
      pick P (ltb (a * 2) (2 ^ w)) (pos a) (negsuc (2 ^ w - suc a)) (λ e. f (ltb-true _ _ e)) (λ e. g (ltb-false _ _ e))

  pub by_signs : (P : ℤ → ℤ → Type 0) (a b : ℕ)
      → (a * 2 < 2 ^ w → b * 2 < 2 ^ w → P (pos a) (pos b))
      → (a * 2 < 2 ^ w → 2 ^ w ≤ b * 2 → P (pos a) (negsuc (2 ^ w - suc b)))
      → (2 ^ w ≤ a * 2 → b * 2 < 2 ^ w → P (negsuc (2 ^ w - suc a)) (pos b))
      → (2 ^ w ≤ a * 2 → 2 ^ w ≤ b * 2 → P (negsuc (2 ^ w - suc a)) (negsuc (2 ^ w - suc b)))
      → P (signed w a) (signed w b)
  by_signs P a b pp pn np nn =
      by_sign (λ (x : ℤ). P x (signed w b)) a
      (λ p. by_sign (λ (y : ℤ). P (pos a) y) b (pp p) (pn p))
      (λ p. by_sign (λ (y : ℤ). P (negsuc (2 ^ w - suc a)) y) b (np p) (nn p))
