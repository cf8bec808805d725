use Rattle.std.proofs.Common.{◌≡◌, ◌-◌}
use Rattle.tables.specs.First.{every_from}
use Rattle.labels.specs.Labels.{has_target, targets_present}
use Rattle.labels.specs.Targets.{Targets}
use Rattle.labels.proofs.labels.keep_targets.Given as goal

abbrev pub invariant-loop-row : goal.invariant-loop-row
invariant-loop-row l = record { targets : Targets l.instructions l.targets l.row; rest : every_from (has_target l.instructions) l.row (l.rows - l.row) ≡ targets_present l.instructions }
