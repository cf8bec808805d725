use Rattle.std.proofs.Common.{ap, ◌∙◌, ◌+◌, arith}
use Rattle.tables.specs.Rows.{region_rows}
use Rattle.tables.specs.Cells.{first_cell, cell_count}
use Rattle.tables.proofs.CellsLaws.{first_cell-next, first_cell_mono, cells_over, cells-counted}
use Rattle.tables.proofs.cells.cell_count.Goals as goal

pub returns-then-cells-own : goal.returns-then-cells-own
unfolding cell_count
returns-then-cells-own c =
    let e = first_cell-next c.args.regions.now c.loop-i.i in
    let h = first_cell_mono c.args.regions.now (c.loop-i.i + 1) (region_rows c.args.regions.now) (omega arith) in
    cells_over c.args.regions.now (omega (arith, e, h, c.cells_in-own.ensures))

pub returns : goal.returns
unfolding cell_count
returns c = cells-counted c.args.regions.now (c.loop-i.invariant.sum ∙ ap (first_cell c.args.regions.now) (omega arith)) c.loop-i.invariant.within
