use Rattle.std.proofs.Common.{sym, ◌∙◌}
use Rattle.tables.proofs.LookupLaws.{lookup_within}
use Rattle.type_rules.proofs.rules.type_check_unary_logic.Goals as goal

pub kind_at-operand-requires : goal.kind_at-operand-requires
kind_at-operand-requires c = lookup_within _ _ _ _ (sym c.lookup_region.ensures ∙ c.in-Some.is)
