use Rattle.std.proofs.Common.{rules}
use Rattle.tables.proofs.RowsLaws.{every-from_all}
use Rattle.operators.specs.Convert.{conversions_fit}
use Rattle.operators.proofs.convert.conversions_fit.Goals as goal

pub returns : goal.returns
unfolding conversions_fit
returns c = every-from_all _ _ _ _ _ c.all.ensures.ran (λ x q k. search rules) (λ x q k. search rules)
