use Rattle.std.proofs.Common.{T, w64, of_z, sym, subst, ap, ◌∙◌, rules, true≢false}
use Rattle.std.specs.Float.Ieee.{of_bits, neg}
use Rattle.std.proofs.lemmas.Int.{to_z-of_z}
use Rattle.words.proofs.Cuts.{given, refused}
use Rattle.words.proofs.convert.real_to_integer.Goals.{else-value-via-then-value+else-value-2, else-value-via-else-value}
use Rattle.words.proofs.convert.real_to_integer.Goals as goal

pub truncating_f64_to_i64-whole-requires-clause-lower_bound : goal.truncating_f64_to_i64-whole-requires-clause-lower_bound
unfolding of_bits neg
truncating_f64_to_i64-whole-requires-clause-lower_bound c = subst T (sym c.if-value.true) tt

pub truncating_f64_to_i64-whole-requires-clause-upper_bound : goal.truncating_f64_to_i64-whole-requires-clause-upper_bound
unfolding of_bits
truncating_f64_to_i64-whole-requires-clause-upper_bound c = subst T (sym c.if-value-2.true) tt

pub returns-then-value-2 : goal.returns-then-value-2
unfolding of_bits neg
returns-then-value-2 c =
    given _ _ _ (sym c.f64_from_bits_with_nan-value.ensures) (c.if-value.true, c.if-value-2.true)
    (c.cast_unsigned.ensures ∙ ap (of_z w64) (to_z-of_z w64 _ (search rules) ∙ c.truncating_f64_to_i64-whole.ensures))

pub returns : goal.returns
unfolding of_bits neg
returns c =
    refused _ _ (sym c.f64_from_bits_with_nan-value.ensures)
    (elim c.else-value.branch [
      | else-value-via-then-value+else-value-2 w ↦ λ i. true≢false (sym i.1 ∙ w.if-value-2.false)
      | else-value-via-else-value w ↦ λ i. true≢false (sym i.0 ∙ w.if-value.false)
    ])
