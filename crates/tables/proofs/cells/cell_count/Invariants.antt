use Rattle.std.proofs.Common.{◌≡◌, ◌≤◌}
use Rattle.tables.specs.Cells.{cell_limit, first_cell}
use Rattle.tables.proofs.cells.cell_count.Given as goal

abbrev pub invariant-loop-i : goal.invariant-loop-i
invariant-loop-i l = record { sum : l.cells ≡ first_cell l.regions l.i; within : l.cells ≤ cell_limit }
