use Rattle.std.proofs.Common.{◌+◌, ◌≡◌, ap, arith}
use Rattle.tables.specs.declared.rows.Region.{Region}
use Rattle.tables.proofs.CellsLaws.{first_cell-next}
use Rattle.session_open.proofs.ZeroLaws.{region-within, zeroed-put}
use Rattle.session_open.proofs.zero.zero_region.Goals as goal

pub region_at-region-requires : goal.region_at-region-requires
region_at-region-requires c = c.requires.0

pub cells_in-requires : goal.cells_in-requires
cells_in-requires c = c.requires.0

pub overflow_add-past : goal.overflow_add-past
overflow_add-past c = omega (arith, region-within c.args.regions.now c.args.r c.requires.0 c.requires.2.first c.cells_in.ensures)

pub loop-cell-init : goal.loop-cell-init
loop-cell-init c = c.requires.2.zeroed

pub put_cell-requires : goal.put_cell-requires
put_cell-requires c = omega (arith, region-within c.args.regions.now c.args.r c.requires.0 c.requires.2.first c.cells_in.ensures)

pub loop-cell-preserved : goal.loop-cell-preserved
loop-cell-preserved c =
    let within = region-within c.args.regions.now c.args.r c.requires.0 c.requires.2.first c.cells_in.ensures in
    zeroed-put c.args.regions.now c.args.r (ap (λ (x : Region). x.kind) c.region_at-region.ensures) _ _ c.requires.0 (omega arith) (omega arith) (omega (arith, within)) c.loop-cell.invariant c.put_cell.ensures

pub returns : goal.returns
returns c =
    let e : c.loop-cell.cell ≡ c.args.first + c.cells_in.result = omega arith in
    record { first = omega (arith, first_cell-next c.args.regions.now c.args.r, c.cells_in.ensures, c.requires.2.first); zeroed = rw e at c.loop-cell.invariant }
