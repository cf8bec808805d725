-- What refusal 22 says of a row; CONVERT's results. Assumes nothing.
use Rattle.std.proofs.Common.{Option, Some, None}
use Prim.Native.Nat.{ℕ, suc, ◌-◌, ◌^◌, ◌<◌}
use mathlib.Core.Bool.{Bool, true, false, not, cond, ◌||◌, ◌&&◌}
use mathlib.Core.List.{List}
use mathlib.Core.Path.{◌≡◌, refl, sym, ap, ◌∙◌, subst}
use lib.Dec.{T}
use lib.IntN.{ℤ, pos, negsuc, neg_ℤ}
use lib.Signed.{le_z}
use lib.Ieee.{binary64, fits, of_int}
use lib.Ieee.Bits.{to_bits-lt}
use lib.Ieee.Fits.{round-fits}
use Rattle.words.specs.Integer.{number, word}
use Rattle.words.specs.Convert.{integer_to_real, is_finite, truncated, within_integer, real_to_integer}
use Rattle.words.specs.WidthLaws.{word_below}
use Rattle.tables.specs.Lookup.{lookup_region}
use Rattle.tables.specs.Rows.{region_kind}
use Rattle.tables.specs.declared.rows.Instruction.{Instruction}
use Rattle.tables.proofs.FirstLaws.{never}
use Rattle.operators.specs.Convert.{convertible, both_convertible, is_convert, conversion_fits}

-- the regions of a CONVERT that fits
pub record Convertible (regions : List ℕ) (x : Instruction) : Type 0 where
  pub to : ℕ
  pub from : ℕ
  pub to_found : lookup_region regions x.first_name ≡ Some to
  pub from_found : lookup_region regions x.source_first ≡ Some from
  pub kinds : convertible (region_kind regions to) (region_kind regions from) ≡ true

pub conversion_kinds : (regions : List ℕ) (x : Instruction) → is_convert x ≡ true → conversion_fits regions x ≡ true → Convertible regions x
unfolding conversion_fits
conversion_kinds regions x e h =
    at (lookup_region regions x.first_name) (lookup_region regions x.source_first) refl refl
    (ap (λ (t : Bool). not t || both_convertible regions (lookup_region regions x.first_name) (lookup_region regions x.source_first)) (sym e) ∙ h)
  where
    at : (d s : Option ℕ) → lookup_region regions x.first_name ≡ d → lookup_region regions x.source_first ≡ s → both_convertible regions d s ≡ true → Convertible regions x
    at (Some d) (Some s) p q k = record { to = d; from = s; to_found = p; from_found = q; kinds = k }
    at (Some d) None p q k = never k
    at None s p q k = never k

-- ---- its results are words of 64 bits

pub integer_to_real-below : (a : ℕ) → integer_to_real a < 2 ^ 64
unfolding integer_to_real of_int
integer_to_real-below a = to_bits-lt binary64 (of_int binary64 (number a)) (int_fits (number a))
  where
    int_fits : (z : ℤ) → T (fits binary64 (of_int binary64 z))
    int_fits (pos n) = round-fits binary64 false n 1
    int_fits (negsuc n) = round-fits binary64 true (suc n) 1

within_word : (z : ℤ) (r : ℕ) → within_integer z ≡ Some r → word z ≡ r
unfolding within_integer
within_word z r e = at (le_z (neg_ℤ (pos (2 ^ 63))) z && le_z z (pos (2 ^ 63 - 1))) e
  where
    at : (t : Bool) → cond t (Some (word z)) None ≡ Some r → word z ≡ r
    at true q = cc
    at false q = cc

real_to_integer-word : (a r : ℕ) → real_to_integer a ≡ Some r → word (truncated a) ≡ r
unfolding real_to_integer
real_to_integer-word a r e = at (is_finite a) e
  where
    at : (t : Bool) → cond t (within_integer (truncated a)) None ≡ Some r → word (truncated a) ≡ r
    at true q = within_word (truncated a) r q
    at false q = cc

pub real_to_integer-below : (a r : ℕ) → real_to_integer a ≡ Some r → r < 2 ^ 64
real_to_integer-below a r e = subst (λ (n : ℕ). n < 2 ^ 64) (real_to_integer-word a r e) (word_below 64 (truncated a))
