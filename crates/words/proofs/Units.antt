-- A REAL word's units and the value that is read from the word are one number; and the units of a whole number rounded to a REAL. Assumes nothing.
use Rattle.std.proofs.Common.{◌≡◌, ℕ, zero, suc, ◌+◌, ◌-◌, ◌*◌, ◌/◌, ◌%◌, ◌^◌, ◌<◌, ◌≤◌, Bool, true, false, cond, not, eqb, leb, ◌⊎◌, sym, refl, ap, ◌∙◌, subst, inl, inr, true≢false, lt_of_lt_of_le, lt_of_le_of_lt, mul_assoc, one-mul, pow-suc, mul-one, div-one, arith, lit≤, pow_mono, shl_lt}
use Rattle.std.proofs.lemmas.Bool.{false≢true}
use Rattle.std.proofs.Math.Nat.{mul-mod_left, eq_of_mul-eq-mul_right}
use Rattle.std.proofs.Math.Pow.{add-lt-pow, mod-mod-pow}
use Rattle.std.specs.Float.Ieee.{Float, nan, inf, fin, binary64, down, size, odd, units, round, of_fields, of_bits, to_bits}
use Rattle.std.specs.Float.Ieee.Fits.{down_pos, round_is, round-fits}
use Rattle.std.specs.Float.Ieee.Bits.{of_bits-to_bits}
use Rattle.std.specs.Float.Ieee.Exact.{HasValue, odd_sign, units_val}
use Rattle.std.specs.Float.Ieee.Nearest.{closest}
use Rattle.words.specs.Convert.{is_negative, exponent, fraction, is_finite, units_of_one, units_at}
use Rattle.words.proofs.Gaps.{rounded, kept, dropped, rounded_le, kept_le, kept_half, even_or_less}

-- ---- what a word's fields are read as

fields_value : (s : Bool) (x t : ℕ) → not (eqb x 2047) ≡ true → HasValue (of_fields binary64 s x t) s (units_at x t) units_of_one
unfolding of_fields units_at
fields_value s zero t e = subst (λ (z : ℕ). HasValue (odd 53 s t 0 1074) s z units_of_one) (mul-one t) (odd_sign 53 s t 0 1074)
fields_value s (suc x) t e = go (eqb (suc x) 2047) e
  where
    go : (b : Bool) → not b ≡ true → HasValue (cond b (cond (eqb t 0) (inf s) nan) (odd 53 s (2 ^ 52 + t) x 1074)) s ((2 ^ 52 + t) * 2 ^ x) units_of_one
    go true h = absurd (false≢true h)
    go false h = odd_sign 53 s (2 ^ 52 + t) x 1074

fields_none : (s : Bool) (x t : ℕ) (r : Bool) (a c : ℕ) → not (eqb x 2047) ≡ false → HasValue (of_fields binary64 s x t) r a c → ⊥
unfolding of_fields
fields_none s zero t r a c e v = true≢false e
fields_none s (suc x) t r a c e v = go (eqb (suc x) 2047) (eqb t 0) e v
  where
    go : (b d : Bool) → not b ≡ false → HasValue (cond b (cond d (inf s) nan) (odd 53 s (2 ^ 52 + t) x 1074)) r a c → ⊥
    go true true h w = w
    go true false h w = w
    go false d h w = true≢false h

-- the word's value, in the library's words, is its units
pub same_value : (b : ℕ) → is_finite b ≡ true → HasValue (of_bits binary64 b) (is_negative b) (units_at (exponent b) (fraction b)) units_of_one
unfolding of_bits
same_value b e = fields_value (leb (2 ^ 63) b) (b % 2 ^ 63 / 2 ^ 52) (b % 2 ^ 52) e

-- one value is one number
one_size : (x : Float) (s t : Bool) (a b c : ℕ) → HasValue x s a c → HasValue x t b c → (s ≡ t) × (a ≡ b)
one_size nan s t a b c v w = absurd v
one_size (inf u) s t a b c v w = absurd v
one_size (fin u m e) s t a b c v w = (sym v.0 ∙ w.0, eq_of_mul-eq-mul_right (down e) (down_pos e) a b (sym v.1 ∙ w.1))

-- the fields of a word whose value is known
pub record Read (b : ℕ) (s : Bool) (n : ℕ) : Type 0 where
  pub finite : is_finite b ≡ true
  pub sign : is_negative b ≡ s
  pub size_is : units_at (exponent b) (fraction b) ≡ n

pub no_value : (b : ℕ) (r : Bool) (a c : ℕ) → is_finite b ≡ false → HasValue (of_bits binary64 b) r a c → ⊥
unfolding of_bits
no_value b r a c e v = fields_none (leb (2 ^ 63) b) (b % 2 ^ 63 / 2 ^ 52) (b % 2 ^ 52) r a c e v

read : (b : ℕ) (s : Bool) (n : ℕ) → HasValue (of_bits binary64 b) s n units_of_one → Read b s n
read b s n v = go (is_finite b) refl
  where
    go : (t : Bool) → is_finite b ≡ t → Read b s n
    go true e =
        let p = one_size (of_bits binary64 b) (is_negative b) s (units_at (exponent b) (fraction b)) n units_of_one (same_value b e) v in
        record { finite = e; sign = p.0; size_is = p.1 }
    go false e = absurd (no_value b s n units_of_one e v)

-- ---- a whole number n, below 2 ^ 64, rounded to a REAL: in units it is `rounded 53 (n * units_of_one)`

round_one : (s : Bool) (n : ℕ) → round binary64 s n 1 ≡ units binary64 s (kept 53 (n * units_of_one)) (dropped 53 (n * units_of_one))
round_one s n =
    let d = n * units_of_one in
    round_is binary64 s n 1
    ∙ ap (λ (z : ℕ). units binary64 s (closest d (1 * 2 ^ (size z - 53))) (size z - 53)) (div-one d)
    ∙ ap (λ (z : ℕ). units binary64 s (closest d z) (size d - 53)) (one-mul (2 ^ (size d - 53)))

no_overflow : (n : ℕ) → n < 2 ^ 64 → rounded 53 (n * units_of_one) < 2 ^ (1074 + 1024)
no_overflow n h =
    let d : n * units_of_one < 2 ^ (64 + 1074) = shl_lt 64 1074 h in
    lt_of_le_of_lt (rounded_le 53 (n * units_of_one) (lit≤ tt)) (lt_of_lt_of_le (add-lt-pow (64 + 1074) d d) (pow_mono {i = 1139} {j = 2098} (lit≤ tt)))

round_value : (s : Bool) (n : ℕ) → n < 2 ^ 64 → HasValue (round binary64 s n 1) s (rounded 53 (n * units_of_one)) units_of_one
round_value s n h =
    subst (λ (x : Float). HasValue x s (rounded 53 (n * units_of_one)) units_of_one) (sym (round_one s n))
    (units_val binary64 s (kept 53 (n * units_of_one)) (dropped 53 (n * units_of_one)) (no_overflow n h))

pub round_read : (s : Bool) (n : ℕ) → n < 2 ^ 64 → Read (to_bits binary64 (round binary64 s n 1)) s (rounded 53 (n * units_of_one))
round_read s n h =
    read (to_bits binary64 (round binary64 s n 1)) s (rounded 53 (n * units_of_one))
    (subst (λ (x : Float). HasValue x s (rounded 53 (n * units_of_one)) units_of_one) (sym (of_bits-to_bits binary64 (round binary64 s n 1) (round-fits binary64 s n 1))) (round_value s n h))

-- ---- the units of every word are a number of 53 digits with zeros after it
with_lead : (t : ℕ) → t < 2 ^ 52 → 2 ^ 52 + t < 2 ^ 53
with_lead t h = omega arith

no_lead : (t : ℕ) → t < 2 ^ 52 → t < 2 ^ 53
no_lead t h = omega arith

pub by_digits : (P : ℕ → Type 0) (x t : ℕ) → t < 2 ^ 52 → ((q j : ℕ) → q < 2 ^ 53 → P (q * 2 ^ j)) → P (units_at x t)
unfolding units_at
by_digits P zero t h f = subst P (mul-one t) (f t 0 (no_lead t h))
by_digits P (suc x) t h f = f (2 ^ 52 + t) x (with_lead t h)

-- ---- an even kept number is an even word
even_lead : (t : ℕ) → (2 ^ 52 + t) % 2 ≡ 0 → t % 2 ≡ 0
even_lead t h = omega arith

half_most : (k h : ℕ) → k ≤ 2 ^ 53 → h ≡ k / 2 → h ≤ 2 ^ 52
half_most k h l e = omega arith

at_most_lead : (t h : ℕ) → 2 ^ 52 + t ≤ h → h ≤ 2 ^ 52 → t % 2 ≡ 0
at_most_lead t h a b = omega arith

even_low : (t h k : ℕ) → t ≡ h * 2 ^ suc k → t % 2 ≡ 0
even_low t h k e = ap (λ (z : ℕ). z % 2) (e ∙ ap (λ (z : ℕ). h * z) (pow-suc 2 k) ∙ sym (mul_assoc h (2 ^ k) 2)) ∙ mul-mod_left (h * 2 ^ k) 2

even-fraction : (x t h k : ℕ) → units_at x t ≡ h * 2 ^ suc k → h ≤ 2 ^ 52 → t % 2 ≡ 0
unfolding units_at
even-fraction zero t h k e l = even_low t h k e
even-fraction (suc x) t h k e l = go (even_or_less (2 ^ 52 + t) x h k e)
  where
    go : ((2 ^ 52 + t) % 2 ≡ 0) ⊎ (2 ^ 52 + t ≤ h) → t % 2 ≡ 0
    go (inl z) = even_lead t z
    go (inr z) = at_most_lead t h z l

pub even-word : (b n : ℕ) → units_at (exponent b) (fraction b) ≡ rounded 53 n → kept 53 n % 2 ≡ 0 → b % 2 ≡ 0
even-word b n e k =
    sym (mod-mod-pow b 51 1)
    ∙ even-fraction (exponent b) (fraction b) (kept 53 n / 2) (dropped 53 n) (e ∙ kept_half 53 n k) (half_most (kept 53 n) (kept 53 n / 2) (kept_le 53 n) refl)
