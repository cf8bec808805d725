use Rattle.std.proofs.Common.{◌∙◌}
use Rattle.loader.proofs.LooksLaws.{tables_look}
use Rattle.loader.proofs.load.load_tables.Goals as goal

pub returns : goal.returns
returns c = c.look_at_tables.ensures ∙ tables_look _
