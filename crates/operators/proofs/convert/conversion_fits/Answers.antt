use Rattle.std.proofs.Common.{sym, ◌∙◌}
use Rattle.tables.proofs.LookupLaws.{region-row}
use Rattle.operators.proofs.convert.conversion_fits.Goals as goal

pub region_at-destination-requires : goal.region_at-destination-requires
region_at-destination-requires c = region-row _ c.args.x.first_name _ (sym c.lookup_region.ensures ∙ c.in-Some.is)

pub region_at-source-requires : goal.region_at-source-requires
region_at-source-requires c = region-row _ c.args.x.source_first _ (sym c.lookup_region-2.ensures ∙ c.in-Some-lookup_region.is)
