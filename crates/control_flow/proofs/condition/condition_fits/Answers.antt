use Rattle.std.proofs.Common.{sym, ◌∙◌}
use Rattle.tables.proofs.LookupLaws.{region-row}
use Rattle.control_flow.proofs.condition.condition_fits.Goals as goal

pub region_at-region-requires : goal.region_at-region-requires
region_at-region-requires c = region-row _ c.args.x.first_name _ (sym c.lookup_region.ensures ∙ c.in-Some.is)
