use Rattle.std.proofs.Common.{◌≡◌, ◌-◌}
use Rattle.tables.specs.First.{every_from}
use Rattle.labels.specs.Labels.{new_label, labels_distinct}
use Rattle.labels.specs.Chains.{Chains}
use Rattle.labels.proofs.labels.chain_labels.Given as goal

abbrev pub invariant-loop-row : goal.invariant-loop-row
invariant-loop-row l = record { chains : Chains l.instructions l.heads l.links l.row; rest : every_from (new_label l.instructions) l.row (l.rows - l.row) ≡ labels_distinct l.instructions }
