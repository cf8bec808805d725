use Rattle.std.proofs.Common.{◌≡◌, ◌-◌}
use Rattle.tables.specs.Lookup.{lookup_from, lookup_among}
use Rattle.tables.proofs.lookup.lookup_among.Given as goal

abbrev pub invariant-loop-i : goal.invariant-loop-i
invariant-loop-i l = lookup_from l.width l.table l.name l.i (l.rows - l.i) ≡ lookup_among l.width l.table l.name l.rows
