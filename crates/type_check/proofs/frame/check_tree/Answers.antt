use Rattle.std.proofs.Common.{refl, sym, ap, ◌∙◌, arith}
use Rattle.tables.proofs.FirstLaws.{first_hit, first_miss, first-end, first-all}
use Rattle.type_check.specs.Frame.{node_verdict, tree_verdict, is_failure, at_place}
use Rattle.type_check.proofs.Looked.{checked}
use Rattle.type_check.proofs.frame.check_tree.Goals as goal

pub loop-place-init : goal.loop-place-init
unfolding tree_verdict
loop-place-init c = (refl, first-all _ _ _ _)

pub returns-in-Err : goal.returns-in-Err
returns-in-Err c =
    let v = c.should_be_real-judged.ensures ∙ ap (node_verdict _) c.node_at.ensures in
    let seen = sym v ∙ c.in-Err.is in
    checked _ _ _ _ (ap (at_place _) (sym seen) ∙ (sym (first_hit _ _ _ _ _ c.loop-place-test.true (ap is_failure seen)) ∙ c.loop-place.invariant.1)) (omega (arith, c.loop-place.invariant.0))

pub loop-place-preserved : goal.loop-place-preserved
loop-place-preserved c =
    let v = c.should_be_real-judged.ensures ∙ ap (node_verdict _) c.node_at.ensures in
    (omega (arith, c.loop-place.invariant.0), sym (first_miss _ _ _ _ _ c.loop-place-test.true (ap is_failure (sym v ∙ c.in_default.is))) ∙ c.loop-place.invariant.1)

pub returns : goal.returns
returns c = checked _ _ _ _ (sym (first-end _ _ _ _ _ c.loop-place-test.false) ∙ c.loop-place.invariant.1) (omega (arith, c.loop-place.invariant.0))
