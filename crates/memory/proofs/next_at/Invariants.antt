use Rattle.std.proofs.Common.{◌≡◌, ◌-◌}
use Rattle.memory.specs.References.{next_from, next_of}
use Rattle.memory.proofs.next_at.Given as goal

abbrev pub invariant-loop-i : goal.invariant-loop-i
invariant-loop-i l = next_from l.nodes l.i (l.rows - l.i) ≡ next_of l.nodes l.place
