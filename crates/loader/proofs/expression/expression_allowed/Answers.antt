use Rattle.std.proofs.Common.{sym, ◌∙◌, arith, rules}
use Rattle.tables.proofs.TreeLaws.{inside_le}
use Rattle.loader.proofs.ExpressionLaws.{by_parts, outside}
use Rattle.loader.proofs.expression.expression_allowed.Goals as goal

pub returns-then-not-range_inside : goal.returns-then-not-range_inside
returns-then-not-range_inside c = outside _ _ _ (sym c.range_inside.ensures ∙ c.if-not-range_inside.true)

pub overflow_add-end : goal.overflow_add-end
overflow_add-end c = record { fits = let h = inside_le _ _ _ (sym c.range_inside.ensures ∙ c.if-not-range_inside.false) in omega arith }

pub tree_allowed-requires : goal.tree_allowed-requires
tree_allowed-requires c = let h = inside_le _ _ _ (sym c.range_inside.ensures ∙ c.if-not-range_inside.false) in (omega arith, h, search rules)

pub nodes_allowed-requires : goal.nodes_allowed-requires
nodes_allowed-requires c = let h = inside_le _ _ _ (sym c.range_inside.ensures ∙ c.if-not-range_inside.false) in omega arith

pub returns : goal.returns
returns c =
    let h = inside_le _ _ _ (sym c.range_inside.ensures ∙ c.if-not-range_inside.false) in
    rw (c.tree_allowed.ensures, c.nodes_allowed.ensures, c.nodes_allowed-2.ensures) (by_parts _ _ _ h)
