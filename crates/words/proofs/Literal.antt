-- The literals that a cell of a kind takes are the words of that kind: a number from 0 to 2 ^ w - 1 is a word below 2 ^ w, at any width below 64 and so at 1 and 8.
-- Assumes nothing.
use Rattle.std.proofs.Common.{◌≡◌, ℕ, ◌^◌, ◌<◌, ◌≤◌, Bool, true, false, cond, ◌&&◌, eqb, ltb, leb, ℤ, pos, sym, refl, zero-le, arith, lit≤, pow_pos, pow_mono, le-ltb, lt-ltb, le-leb, leb-false, leb-true}
use Rattle.std.specs.Int.Signed.{le_z}
use Rattle.words.specs.Kind.{width_of, fits_kind}
use Rattle.words.specs.Literal.{up_to, literal_fits}
use Rattle.words.specs.Width.{ones}
use Rattle.words.proofs.Signs.{by_sign}

-- a negative number's word is 2 ^ 63 at least
pub up_to-ones : (w a : ℕ) → w ≤ 63 → up_to (ones w) a ≡ ltb a (2 ^ w)
up_to-ones w a h =
    by_sign 64 (λ (x : ℤ). le_z (pos 0) x && le_z x (pos (ones w)) ≡ ltb a (2 ^ w)) a
    (λ p. rw (le-leb 0 a zero-le) (at (leb a (ones w)) refl))
    (λ p. sym (le-ltb a (2 ^ w) (omega (arith, pow_mono h))))
  where
    at : (t : Bool) → leb a (ones w) ≡ t → t ≡ ltb a (2 ^ w)
    at true e = sym (lt-ltb a (2 ^ w) (omega (arith, pow_pos w, leb-true a (ones w) e)))
    at false e = sym (le-ltb a (2 ^ w) (omega (arith, leb-false a (ones w) e)))

pub literal-fits : (kind a : ℕ) → kind < 4 → a < 2 ^ 64 → literal_fits kind a ≡ fits_kind kind a
unfolding literal_fits fits_kind width_of
literal-fits kind a k h = rw (lt-ltb kind 4 k) (at (eqb kind 0) (eqb kind 2))
  where
    at : (b o : Bool) → cond b (up_to 1 a) (cond o (up_to 255 a) true) ≡ ltb a (2 ^ cond b 1 (cond o 8 64))
    at true o = up_to-ones 1 a (lit≤ tt)
    at false true = up_to-ones 8 a (lit≤ tt)
    at false false = sym (lt-ltb a (2 ^ 64) h)
