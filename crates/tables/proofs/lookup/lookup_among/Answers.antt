use Rattle.std.proofs.Common.{sym, ◌∙◌, arith}
use Rattle.tables.proofs.FirstLaws.{first_hit, first_miss, first-end}
use Rattle.tables.proofs.lookup.lookup_among.Goals as goal

pub returns-then-has_name : goal.returns-then-has_name
returns-then-has_name c = sym (first_hit _ _ _ _ _ (omega arith) (sym c.has_name.ensures ∙ c.if-has_name.true)) ∙ c.loop-i.invariant

pub loop-i-preserved : goal.loop-i-preserved
loop-i-preserved c = sym (first_miss _ _ _ _ _ (omega arith) (sym c.has_name.ensures ∙ c.if-has_name.false)) ∙ c.loop-i.invariant

pub returns : goal.returns
returns c = sym (first-end _ _ _ _ _ (omega arith)) ∙ c.loop-i.invariant
