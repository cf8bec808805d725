use Rattle.std.proofs.Common.{◌≡◌, ◌+◌, ◌-◌, ◌≤◌}
use Rattle.loader.specs.Expression.{trees_allowed}
use Rattle.loader.proofs.expression.tree_allowed.Given as goal

abbrev pub invariant-loop-row : goal.invariant-loop-row
invariant-loop-row l = record { few : l.trees ≤ l.row + 1; rest : trees_allowed l.nodes l.trees l.row (l.end - l.row) ≡ trees_allowed l.nodes 1 l.first (l.end - l.first) }
