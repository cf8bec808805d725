use Rattle.std.proofs.Common.{◌≡◌, ◌-◌}
use Rattle.type_check.specs.Frame.{tree_verdict, tree_from}
use Rattle.type_check.proofs.frame.check_tree.Given as goal

abbrev pub invariant-loop-place : goal.invariant-loop-place
invariant-loop-place l = (l.looked ≡ l.place) × (tree_from l.regions l.nodes l.first l.place (l.count - l.place) ≡ tree_verdict l.regions l.nodes l.first l.count)
