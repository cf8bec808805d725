use Rattle.std.proofs.Common.{◌≤◌}
use Rattle.stepper_tables.proofs.row.read_row.Given as goal

abbrev pub invariant-words : goal.invariant-words
invariant-words l = l.row.count ≤ 16
