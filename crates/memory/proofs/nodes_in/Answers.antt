use Rattle.std.proofs.Common.{arith}
use Rattle.memory.proofs.ReferenceLaws.{one_tree-inside}
use Rattle.memory.proofs.nodes_in.Goals as goal

pub overflow_mul-start : goal.overflow_mul-start
overflow_mul-start c = omega (arith, one_tree-inside _ _ _ c.requires)

pub overflow_add-end : goal.overflow_add-end
overflow_add-end c = omega (arith, one_tree-inside _ _ _ c.requires)

pub overflow_mul-end : goal.overflow_mul-end
overflow_mul-end c = omega (arith, one_tree-inside _ _ _ c.requires)

pub offset_bounds-nodes-start : goal.offset_bounds-nodes-start
offset_bounds-nodes-start c = omega (arith, one_tree-inside _ _ _ c.requires)

pub slice_bounds-result-end : goal.slice_bounds-result-end
slice_bounds-result-end c = omega (arith, one_tree-inside _ _ _ c.requires)
