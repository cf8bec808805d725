use Rattle.std.proofs.Common.{ap, ◌∙◌}
use Rattle.loader.specs.Load.{chosen_look}
use Rattle.loader.proofs.LooksLaws.{row_look}
use Rattle.loader.proofs.load.load_row.Goals as goal

pub returns : goal.returns
returns c = c.look_at_tables.ensures ∙ (ap (chosen_look _) c.chosen_row-chosen.ensures ∙ row_look _ _ _)
