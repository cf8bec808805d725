use Rattle.std.proofs.Common.{◌≡◌, ◌-◌}
use Rattle.tables.specs.First.{every_from}
use Rattle.tables.specs.Lookup.{new_name, distinct}
use Rattle.tables.specs.Marks.{Marked}
use Rattle.tables.proofs.lookup.distinct_names.Given as goal

abbrev pub invariant-loop-i : goal.invariant-loop-i
invariant-loop-i l = record { marked : Marked l.width l.table l.marks l.i; rest : every_from (new_name l.width l.table) l.i (l.rows - l.i) ≡ distinct l.width l.table }
