use Rattle.std.proofs.Common.{◌≡◌}
use Rattle.tables.specs.Cells.{first_cell}
use Rattle.operands.proofs.address.region_origin.Given as goal

abbrev pub invariant-loop-i : goal.invariant-loop-i
invariant-loop-i l = l.c ≡ first_cell l.regions l.i
