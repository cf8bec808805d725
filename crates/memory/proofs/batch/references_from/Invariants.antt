use Rattle.std.proofs.Common.{◌≡◌}
use Rattle.memory.specs.Batch.{room_of, hand_out}
use Rattle.memory.proofs.BatchLaws.{left_from}
use Rattle.memory.proofs.batch.references_from.Given as goal

abbrev pub invariant-loop-count : goal.invariant-loop-count
invariant-loop-count l = left_from l.nodes (room_of l.initial.rows) l.passed l.count l.rows ≡ hand_out l.nodes l.place l.initial.rows
