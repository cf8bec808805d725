use Rattle.std.proofs.Common.{sym, ◌∙◌}
use Rattle.tables.proofs.LookupLaws.{lookup_within}
use Rattle.type_check.proofs.frame.check_address.Goals as goal

pub kind_at-kind-requires : goal.kind_at-kind-requires
kind_at-kind-requires c = lookup_within _ _ _ _ (sym c.lookup_region.ensures ∙ c.in-Some.is)
