use Rattle.std.proofs.Common.{◌≡◌, ◌*◌, ◌-◌}
use Rattle.tables.specs.Lookup.{lookup_from, lookup_among}
use Rattle.tables.proofs.lookup.pass_fours.Given as goal

abbrev pub invariant-loop-four : goal.invariant-loop-four
invariant-loop-four l = lookup_from l.width l.table l.name (4 * l.four) (l.rows - 4 * l.four) ≡ lookup_among l.width l.table l.name l.rows
