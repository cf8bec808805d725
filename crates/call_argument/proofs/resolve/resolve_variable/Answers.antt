use Rattle.std.proofs.Common.{sym, ◌∙◌}
use Rattle.tables.proofs.LookupLaws.{lookup_within}
use Rattle.call_argument.proofs.resolve.resolve_variable.Goals as goal

pub region_at-declared-requires : goal.region_at-declared-requires
region_at-declared-requires c = lookup_within _ _ _ _ (sym c.lookup_region.ensures ∙ c.in-Some.is)
