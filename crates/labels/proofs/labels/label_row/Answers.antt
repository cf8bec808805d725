use Rattle.std.proofs.Common.{◌∙◌, rules}
use Rattle.tables.proofs.RowsLaws.{row-from_find}
use Rattle.labels.specs.Labels.{label_row}
use Rattle.labels.proofs.labels.label_row.Goals as goal

pub returns : goal.returns
unfolding label_row
returns c = c.unwrap_or.ensures ∙ row-from_find _ _ _ _ _ _ c.find.ensures.ran (λ x q k. search rules) (λ x q k. search rules)
