use Rattle.std.proofs.Common.{ℕ, ◌≡◌, ap, ◌∙◌, arith, ne_eqb, w64, to_z, Some}
use Rattle.words.specs.Integer.{integer_divide}
use Rattle.words.proofs.Casts.{quotient-word}
use Rattle.words.proofs.integer.divide.Goals as goal

-- By numbers, so that an edit of the divisor is refused for the number.
pub returns : goal.returns
unfolding integer_divide
returns c =
    let same : _ ≡ c.args.b = omega arith in
    rw (ne_eqb _ _ c.if-b-eq0.false)
    (ap Some (quotient-word _ _ _ _ _ _ c.ranges.a.fits c.ranges.b.fits c.cast_signed.ensures (c.cast_signed-2.ensures ∙ ap (to_z w64) same) c.wrapping_div-quotient.ensures c.cast_unsigned.ensures))
