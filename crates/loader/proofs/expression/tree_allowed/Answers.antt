use Rattle.std.proofs.Common.{◌≡◌, sym, ◌∙◌, arith, Some}
use Rattle.word_rules.specs.Children.{children_of}
use Rattle.word_rules.proofs.ChildrenLaws.{children_le}
use Rattle.loader.proofs.ExpressionLaws.{pass_stop, pass-refused, pass-left, pass-end}
use Rattle.loader.proofs.expression.tree_allowed.Goals as goal

pub returns-then-trees-eq0 : goal.returns-then-trees-eq0
returns-then-trees-eq0 c = sym (pass_stop c.args.nodes.now _ c.loop-row.row c.args.end (omega arith) c.if-trees-eq0.true) ∙ c.loop-row.invariant.rest

pub returns-in_default : goal.returns-in_default
returns-in_default c =
    sym (pass-refused c.args.nodes.now _ c.loop-row.row c.args.end c.node_at.ensures (sym c.in_default.is ∙ c.children_of.ensures) (omega arith)) ∙ c.loop-row.invariant.rest

pub overflow_add-trees : goal.overflow_add-trees
overflow_add-trees c =
    let counted : Some c.in-Some.children ≡ children_of c.node_at.result = sym c.in-Some.is ∙ c.children_of.ensures in
    omega (arith, children_le _ _ counted)

pub loop-row-preserved : goal.loop-row-preserved
loop-row-preserved c =
    let counted : Some c.in-Some.children ≡ children_of c.node_at.result = sym c.in-Some.is ∙ c.children_of.ensures in
    record {
      few = omega (arith, children_le _ _ counted);
      rest = pass-left c.args.nodes.now _ c.loop-row.row c.args.end _ c.node_at.ensures counted (omega arith) c.if-trees-eq0.false ∙ c.loop-row.invariant.rest;
    }

pub returns : goal.returns
returns c = sym (pass-end c.args.nodes.now _ _ c.args.end (omega arith)) ∙ c.loop-row.invariant.rest
