-- The size of a value is the library's absolute value. Assumes nothing.
use Rattle.std.proofs.Common.{◌≡◌, false, refl}
use Rattle.std.specs.Float.{Float, nan, inf, fin, float_with_sign}
use Rattle.reals.specs.Real.{size}

pub abs_is : (x : Float) → float_with_sign false x ≡ size x
unfolding float_with_sign size
abs_is nan = refl
abs_is (inf s) = refl
abs_is (fin s m e) = refl
