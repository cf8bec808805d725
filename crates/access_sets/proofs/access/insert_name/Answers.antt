use mathlib.Core.Path.{sym, ◌∙◌}
use Rattle.access_sets.specs.Set.{insert_all}
use Rattle.access_sets.specs.Access.{names_in}
use Rattle.access_sets.proofs.InsertLaws.{same_listed}
use Rattle.access_sets.proofs.access.insert_name.Goals as goal

pub returns-in-Identifier : goal.returns-in-Identifier
unfolding names_in insert_all
returns-in-Identifier c = rw (sym c.decode-argument.ensures ∙ c.in-Identifier.is) c.insert.ensures

pub returns-in-Reference : goal.returns-in-Reference
unfolding names_in insert_all
returns-in-Reference c = rw (sym c.decode-argument.ensures ∙ c.in-Reference.is) c.insert-in-Reference.ensures

pub returns-in-Immediate : goal.returns-in-Immediate
unfolding names_in insert_all
returns-in-Immediate c = rw (sym c.decode-argument.ensures ∙ c.in-Immediate.is) (same_listed _ _ c.requires.0)
