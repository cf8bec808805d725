use Rattle.std.proofs.Common.{◌≡◌, ◌/◌, length, sym, ◌∙◌, arith}
use Rattle.memory.proofs.BatchLaws.{left_end, left-turn, left_full}
use Rattle.memory.proofs.batch.references_from.Goals as goal

pub returns-in_default : goal.returns-in_default
returns-in_default c = sym (left_end _ _ c.loop-count.passed _ _ _ c.next_from-stepped.ensures (omega arith) c.in_default.is) ∙ c.loop-count.invariant

pub loop-count-preserved : goal.loop-count-preserved
loop-count-preserved c =
    rw c.put_reference.ensures (sym (left-turn _ _ c.loop-count.passed _ _ _ c.next_from-stepped.ensures (omega arith) _ c.in-Some.is) ∙ c.loop-count.invariant)

pub returns : goal.returns
returns c =
    let e : c.loop-count.count ≡ length c.args.rows.now / 2 = omega arith in
    rw (← e) (sym (left_full c.args.nodes.now _ _ c.loop-count.count _ (omega arith)) ∙ c.loop-count.invariant)
