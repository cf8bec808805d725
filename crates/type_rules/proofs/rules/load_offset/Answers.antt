use Rattle.std.proofs.Common.{sym, ◌∙◌}
use Rattle.tables.proofs.LookupLaws.{lookup_within}
use Rattle.type_rules.proofs.rules.load_offset.Goals as goal

pub kind_at-offset-requires : goal.kind_at-offset-requires
kind_at-offset-requires c = lookup_within _ _ _ _ (sym c.lookup_region.ensures ∙ c.in-Some.is)
