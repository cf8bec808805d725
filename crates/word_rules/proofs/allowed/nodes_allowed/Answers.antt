use Rattle.std.proofs.Common.{rules}
use Rattle.tables.proofs.RowsLaws.{every_from-from_all}
use Rattle.word_rules.proofs.allowed.nodes_allowed.Goals as goal

pub returns : goal.returns
returns c = every_from-from_all _ _ _ _ _ _ c.all.ensures.ran (λ x q k. search rules) (λ x q k. search rules)
