use mathlib.Core.Path.{sym, ◌∙◌}
use Rattle.access_sets.specs.Set.{insert_all}
use Rattle.access_sets.proofs.InsertLaws.{same_listed}
use Rattle.access_sets.proofs.access.visit.Goals as goal

pub returns-then-is_listed : goal.returns-then-is_listed
returns-then-is_listed c = rw (sym c.is_listed.ensures ∙ c.if-is_listed.true, ← c.argument_at-row.ensures) c.insert_name.ensures

pub returns : goal.returns
unfolding insert_all
returns c = rw (sym c.is_listed.ensures ∙ c.if-is_listed.false) (same_listed _ _ c.requires.1)
