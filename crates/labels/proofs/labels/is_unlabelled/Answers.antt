use Rattle.std.proofs.Common.{arith}
use Rattle.std.proofs.lemmas.Grind.{common_steps}
use Rattle.tables.proofs.RowsLaws.{every-from_all}
use Rattle.labels.specs.Labels.{unlabelled}
use Rattle.labels.proofs.labels.is_unlabelled.Goals as goal

pub returns : goal.returns
unfolding unlabelled
returns c = every-from_all _ _ _ _ _ c.all.ensures.ran (λ x q k. grind (arith, common_steps)) (λ x q k. grind (arith, common_steps))
