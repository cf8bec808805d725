use Rattle.std.proofs.Common.{arith, sym, ◌∙◌}
use Rattle.tables.proofs.CellsLaws.{origin-within}
use Rattle.tables.proofs.LookupLaws.{region-row}
use Rattle.call_reply.proofs.call.named_cell.Goals as goal

pub region_origin-requires : goal.region_origin-requires
region_origin-requires c = (region-row _ c.args.name _ (sym c.lookup_region.ensures ∙ c.in-Some.is), c.requires.0)

pub overflow_add-result : goal.overflow_add-result
overflow_add-result c =
    let found = sym c.lookup_region.ensures ∙ c.in-Some.is in
    omega (arith, c.requires.0.few, origin-within _ _ (region-row _ c.args.name _ found), rw found at c.requires.1)
