-- Distances of whole numbers by their signs, from distances of sizes. Assumes nothing.
use Rattle.std.proofs.Common.{◌≡◌, ℕ, zero, suc, ◌+◌, ◌-◌, ◌<◌, ◌≤◌, Bool, true, false, not, ltb, ◌≢◌, ℤ, pos, negsuc, nat_abs, sym, refl, ap, ◌∙◌, le_trans, le_of_eq, arith, ltb-false, ltb-true}
use Rattle.std.proofs.Math.IntN.{sub_ℕ}
use Rattle.words.specs.Convert.{with_sign}
use Rattle.words.specs.Closest.{distance}
use Rattle.words.proofs.Signs.{pick}
use Rattle.words.proofs.Gaps.{gap}

less_gap : (p q : ℕ) → p < q → suc (q - suc p) ≡ gap p q
less_gap p q h = omega arith

more_gap : (p q : ℕ) → q ≤ p → p - q ≡ gap p q
more_gap p q h = omega arith

sub_gap : (p q : ℕ) → nat_abs (sub_ℕ p q) ≡ gap p q
sub_gap p q =
    pick (λ (z : ℤ). nat_abs z ≡ gap p q) (ltb p q) (negsuc (q - suc p)) (pos (p - q))
    (λ e. less_gap p q (ltb-true p q e))
    (λ e. more_gap p q (ltb-false p q e))

from_zero : (x : ℕ) → x + 0 ≡ gap x 0
from_zero x = omega arith

to_zero : (x : ℕ) → 0 + x ≡ gap 0 x
to_zero x = omega arith

gap_suc : (x y : ℕ) → gap (suc y) (suc x) ≡ gap (suc x) (suc y)
gap_suc x y = omega arith

gap_zero : (x : ℕ) → gap 0 (suc x) ≡ suc x + 0
gap_zero x = omega arith

zero_gap : (x : ℕ) → gap 0 (suc x) ≡ 0 + suc x
zero_gap x = omega arith

turn_zero : (x : ℕ) → gap 0 (suc x) ≡ gap (suc x) 0
turn_zero x = omega arith

both_below : (x y : ℕ) → suc (suc (x + y)) ≡ suc x + suc y
both_below x y = omega arith

alike : (s : Bool) (x y : ℕ) → distance (with_sign s x) (with_sign s y) ≡ gap x y
unfolding distance
alike false x zero = from_zero x
alike false x (suc y) = sub_gap x (suc y)
alike true zero zero = refl
alike true zero (suc y) = to_zero (suc y)
alike true (suc x) zero = sub_gap 0 (suc x) ∙ turn_zero x
alike true (suc x) (suc y) = sub_gap (suc y) (suc x) ∙ gap_suc x y

unlike : (s : Bool) (x y : ℕ) → distance (with_sign (not s) x) (with_sign s y) ≡ x + y
unfolding distance
unlike true x zero = refl
unlike true x (suc y) = refl
unlike false zero zero = refl
unlike false zero (suc y) = sub_gap 0 (suc y) ∙ zero_gap y
unlike false (suc x) zero = sub_gap 0 (suc x) ∙ gap_zero x
unlike false (suc x) (suc y) = both_below x y

-- ---- the number of units n, rounded to r, beside the number of units v of the sign t

across : (r n v : ℕ) → gap r n ≤ gap 0 n → gap r n ≤ v + n
across r n v h = omega arith

pub near : (s t : Bool) (r n v : ℕ) → gap r n ≤ gap v n → gap r n ≤ gap 0 n → distance (with_sign s r) (with_sign s n) ≤ distance (with_sign t v) (with_sign s n)
near s t r n v h z = le_trans (le_of_eq (alike s r n)) (go s t)
  where
    go : (s t : Bool) → gap r n ≤ distance (with_sign t v) (with_sign s n)
    go true true = le_trans h (le_of_eq (sym (alike true v n)))
    go true false = le_trans (across r n v z) (le_of_eq (sym (unlike true v n)))
    go false true = le_trans (across r n v z) (le_of_eq (sym (unlike false v n)))
    go false false = le_trans h (le_of_eq (sym (alike false v n)))

-- a tie: r and v are two numbers at one distance; or r is not 0, and as far as 0 is
across_zero : (r n v : ℕ) → gap r n ≤ gap 0 n → gap r n ≡ v + n → v ≡ 0
across_zero r n v h e = omega arith

across_tie : (r n v : ℕ) → gap r n ≤ gap 0 n → gap r n ≡ v + n → gap r n ≡ gap 0 n
across_tie r n v h e = omega arith

zeros : (s t : Bool) → with_sign s 0 ≡ with_sign t 0
zeros true true = refl
zeros true false = refl
zeros false true = refl
zeros false false = refl

module _ (r n v : ℕ) (E : Type 0) (z : gap r n ≤ gap 0 n) (same : gap r n ≡ gap v n → r ≢ v → E) (none : gap r n ≡ gap 0 n → r ≢ 0 → E) where
  apart : (s t : Bool) → with_sign t v ≢ with_sign s r → gap r n ≡ v + n → E
  apart s t d e =
      none (across_tie r n v z e)
      (λ (h : r ≡ 0). d (ap (λ (k : ℕ). with_sign t k) (across_zero r n v z e) ∙ zeros t s ∙ ap (λ (k : ℕ). with_sign s k) (sym h)))

  pub tie : (s t : Bool) → distance (with_sign t v) (with_sign s n) ≡ distance (with_sign s r) (with_sign s n) → with_sign t v ≢ with_sign s r → E
  tie true true e d = same (sym (alike true r n) ∙ sym e ∙ alike true v n) (λ (h : r ≡ v). d (ap (λ (k : ℕ). with_sign true k) (sym h)))
  tie true false e d = apart true false d (sym (alike true r n) ∙ sym e ∙ unlike true v n)
  tie false true e d = apart false true d (sym (alike false r n) ∙ sym e ∙ unlike false v n)
  tie false false e d = same (sym (alike false r n) ∙ sym e ∙ alike false v n) (λ (h : r ≡ v). d (ap (λ (k : ℕ). with_sign false k) (sym h)))
