use Rattle.std.proofs.Common.{sym, ◌∙◌}
use Rattle.tables.proofs.LookupLaws.{region-row}
use Rattle.call_reply.proofs.call.named_index_fits.Goals as goal

pub index_fits-requires : goal.index_fits-requires
index_fits-requires c = region-row _ c.args.name _ (sym c.lookup_region.ensures ∙ c.in-Some.is)
