use Rattle.std.proofs.Common.{◌≡◌, sym, ◌∙◌, arith}
use Rattle.tables.specs.Rows.{node_tag}
use Rattle.tables.specs.Tree.{arity_of}
use Rattle.tables.proofs.TreeLaws.{arity_le}
use Rattle.tables.proofs.EndsLaws.{end-leaf, end-one, end_two, second-after}
use Rattle.tables.proofs.ends.tree_end.Goals as goal

pub returns-then-children-eq0 : goal.returns-then-children-eq0
returns-then-children-eq0 c = end-leaf _ _ c.requires.0 (sym c.requires.3 ∙ c.if-children-eq0.true)

pub returns-then-children-eq1 : goal.returns-then-children-eq1
returns-then-children-eq1 c = end-one _ _ c.requires.0 _ (sym c.requires.3 ∙ c.if-children-eq1.true) c.requires.1

pub returns : goal.returns
returns c =
    let l = second-after _ _ c.requires.0 _ c.requires.1 in
    let two : arity_of (node_tag c.args.nodes.now c.args.i) ≡ 2 = omega (arith, arity_le (node_tag c.args.nodes.now c.args.i), c.requires.3, c.if-children-eq0.false, c.if-children-eq1.false) in
    rw c.from.ensures (end_two _ _ c.requires.0 _ _ two c.requires.1 (c.requires.2.each _ (omega (arith, l)) c.requires.1.within))
