-- An INTEGER's REAL is no NaN. Assumes nothing.
use Rattle.std.proofs.Common.{◌≡◌, ℕ, zero, suc, ◌+◌, ◌*◌, ◌^◌, Bool, true, false, cond, not, T, ltb, ℤ, pos, negsuc, sym, subst}
use Rattle.std.specs.Float.Ieee.{Float, inf, Format, binary64, prec, emax, low, is_nan, odd, units, of_int}
use Rattle.std.specs.Float.Ieee.Fits.{round_is}

odd_no_nan : (d : ℕ) (s : Bool) (q k l : ℕ) → T (not (is_nan (odd d s q k l)))
unfolding odd is_nan
odd_no_nan d s zero k l = tt
odd_no_nan d s (suc q) k l = tt

units_no_nan : (f : Format) (s : Bool) (q k : ℕ) → T (not (is_nan (units f s q k)))
unfolding units is_nan
units_no_nan f s q k = go (ltb (q * 2 ^ k) (2 ^ (low f + suc (emax f))))
  where
    go : (b : Bool) → T (not (is_nan (cond b (odd (suc (prec f)) s q k (low f)) (inf s))))
    go true = odd_no_nan (suc (prec f)) s q k (low f)
    go false = tt

int_no_nan : (f : Format) (z : ℤ) → T (not (is_nan (of_int f z)))
unfolding of_int
int_no_nan f (pos n) = subst (λ (x : Float). T (not (is_nan x))) (sym (round_is f false n 1)) (units_no_nan f false _ _)
int_no_nan f (negsuc n) = subst (λ (x : Float). T (not (is_nan x))) (sym (round_is f true (suc n) 1)) (units_no_nan f true _ _)

pub no_nan : (x : Float) (z : ℤ) → x ≡ of_int binary64 z → T (not (is_nan x))
no_nan x z e = subst (λ (y : Float). T (not (is_nan y))) (sym e) (int_no_nan binary64 z)
