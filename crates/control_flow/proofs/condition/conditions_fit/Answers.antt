use Rattle.std.proofs.Common.{rules}
use Rattle.tables.proofs.RowsLaws.{every-from_all}
use Rattle.control_flow.specs.Condition.{conditions_fit}
use Rattle.control_flow.proofs.condition.conditions_fit.Goals as goal

pub returns : goal.returns
unfolding conditions_fit
returns c = every-from_all _ _ _ _ _ c.all.ensures.ran (λ x q k. search rules) (λ x q k. search rules)
