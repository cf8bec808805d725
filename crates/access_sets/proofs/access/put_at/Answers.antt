use Rattle.std.proofs.Common.{arith, refl, sym, ◌∙◌, length-set}
use Rattle.access_sets.proofs.InsertLaws.{moving_turn, moving_end}
use Rattle.access_sets.proofs.access.put_at.Goals as goal

pub loop-i-init : goal.loop-i-init
loop-i-init c = (omega arith, refl, refl)

pub loop-i-preserved : goal.loop-i-preserved
loop-i-preserved c = (omega arith, rw length-set c.loop-i.invariant.1, moving_turn _ _ _ _ (omega arith) c.loop-i-test.true ∙ c.loop-i.invariant.2)

pub returns : goal.returns
returns c = sym (moving_end _ _ _ c.loop-i.i (omega arith) c.loop-i-test.false) ∙ c.loop-i.invariant.2
