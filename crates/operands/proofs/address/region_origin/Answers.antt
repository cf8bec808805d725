use Rattle.std.proofs.Common.{rules, arith, refl}
use Rattle.tables.specs.Sum.{sum_to}
use Rattle.tables.specs.Cells.{first_cell}
use Rattle.tables.proofs.CellsLaws.{first_cell-next, first_cell-within}
use Rattle.operands.proofs.address.region_origin.Goals as goal

pub loop-i-init : goal.loop-i-init
unfolding first_cell sum_to
loop-i-init c = refl

pub overflow_add-c : goal.overflow_add-c
overflow_add-c c =
    omega (arith, c.cells_in-c.ensures, first_cell-within c.args.regions.now c.loop-i.i (search rules))

pub loop-i-preserved : goal.loop-i-preserved
loop-i-preserved c = rw (first_cell-next, ← c.loop-i.invariant, c.cells_in-c.ensures)
