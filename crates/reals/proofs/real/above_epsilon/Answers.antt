use Rattle.std.proofs.Common.{ℕ, ◌≡◌, ap, ◌∙◌, arith}
use Rattle.std.specs.Float.Ieee.{lt, of_bits}
use Rattle.reals.specs.Real.{epsilon, size, real_value, real_above_epsilon}
use Rattle.reals.proofs.Size.{abs_is}
use Rattle.reals.proofs.real.above_epsilon.Goals as goal

-- By numbers, so that an edit of the word whose size is looked at is refused for the word.
value : (c : goal.After-abs) → c.value_of.result ≡ real_value c.args.a
value c =
    let same : _ ≡ c.args.a = omega arith in
    c.value_of.ensures ∙ ap (λ (a : ℕ). real_value a) same

pub returns : goal.returns
unfolding of_bits real_above_epsilon
returns c = ap (lt epsilon) (c.abs.ensures.value ∙ abs_is _ ∙ ap size (value c))
