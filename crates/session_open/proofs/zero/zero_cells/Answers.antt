use Rattle.std.proofs.Common.{◌≡◌, ◌∙◌, arith}
use Rattle.tables.specs.Rows.{region_rows}
use Rattle.session_open.proofs.ZeroLaws.{zeroed-none, zeroed-all}
use Rattle.session_open.proofs.zero.zero_cells.Goals as goal

pub loop-r-init : goal.loop-r-init
loop-r-init c = zeroed-none _ _

pub zero_region-first-requires : goal.zero_region-first-requires
zero_region-first-requires c = (c.loop-r-test.true, record { laid = c.requires.laid; wide = c.loop-r.auto.cells ∙ c.requires.wide }, c.loop-r.invariant)

pub returns : goal.returns
returns c = let e : c.loop-r.r ≡ region_rows c.args.regions.now = omega arith in zeroed-all c.args.regions.now _ (c.loop-r.auto.cells ∙ c.requires.wide) (rw e at c.loop-r.invariant)
