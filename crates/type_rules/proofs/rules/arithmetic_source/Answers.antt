use Rattle.std.proofs.Common.{sym, ◌∙◌}
use Rattle.tables.proofs.LookupLaws.{lookup_within}
use Rattle.type_rules.proofs.rules.arithmetic_source.Goals as goal

pub kind_at-source-requires : goal.kind_at-source-requires
kind_at-source-requires c = lookup_within _ _ _ _ (sym c.lookup_region.ensures ∙ c.in-Some.is)
