use Rattle.std.proofs.Common.{sym, ◌∙◌, arith}
use Rattle.tables.specs.Tree.{one_tree}
use Rattle.tables.proofs.TreeLaws.{passed_le}
use Rattle.tables.proofs.EndsLaws.{ends_tree}
use Rattle.tables.proofs.ends.ends_with.Goals as goal

pub offset_bounds-ends-first : goal.offset_bounds-ends-first
offset_bounds-ends-first c = record { fits = omega (arith, passed_le _ _ _ c.range_inside.ensures c.if-range_inside.true, c.requires.rows) }

pub bounds-ends-first : goal.bounds-ends-first
bounds-ends-first c = omega (arith, passed_le _ _ _ c.range_inside.ensures c.if-range_inside.true, c.requires.room)

pub overflow_add-result : goal.overflow_add-result
overflow_add-result c = record { fits = omega (arith, passed_le _ _ _ c.range_inside.ensures c.if-range_inside.true, c.requires.rows) }

pub returns-then-range_inside : goal.returns-then-range_inside
unfolding one_tree
returns-then-range_inside c =
    rw (c.from.ensures, sym c.range_inside.ensures ∙ c.if-range_inside.true) (ends_tree _ _ _ _ c.requires (passed_le _ _ _ c.range_inside.ensures c.if-range_inside.true))

pub returns-else-range_inside : goal.returns-else-range_inside
unfolding one_tree
returns-else-range_inside c = rw (sym c.range_inside.ensures ∙ c.if-range_inside.false) c.if-range_inside.false
