use Rattle.std.proofs.Common.{sym, ◌∙◌}
use Rattle.tables.proofs.LookupLaws.{lookup_within}
use Rattle.type_rules.proofs.rules.pair_of.Goals as goal

pub kind_at-requires : goal.kind_at-requires
kind_at-requires c = lookup_within _ _ _ _ (sym c.lookup_region.ensures ∙ c.in-Some.is)

pub kind_at-requires-2 : goal.kind_at-requires-2
kind_at-requires-2 c = lookup_within _ _ _ _ (sym c.lookup_region-2.ensures ∙ c.in-Some-lookup_region.is)
