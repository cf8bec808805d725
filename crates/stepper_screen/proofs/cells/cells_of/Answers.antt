use Rattle.tables.proofs.Passed.{seen}
use Rattle.std.proofs.Common.{arith, rules}
use Rattle.tables.proofs.CellsLaws.{cells_given}
use Rattle.stepper_screen.proofs.cells.cells_of.Goals as goal

pub region_origin-requires : goal.region_origin-requires
region_origin-requires c =
    let g = cells_given _ _ (seen c.cell_count.ensures c.in-Ok.is) in
    (search rules, record { few = omega (arith, g.0, g.1) })
