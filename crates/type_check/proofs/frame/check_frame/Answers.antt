use mathlib.Core.Path.{sym, ap, ◌∙◌}
use native.Mathlib.Omega.{arith}
use Rattle.type_check.specs.Frame.{frame_rule}
use Rattle.type_check.specs.Looked.{frame_check}
use Rattle.type_check.proofs.FrameLaws.{place-below}
use Rattle.type_check.proofs.frame.check_frame.Goals as goal

pub returns-in_default : goal.returns-in_default
unfolding frame_check frame_rule
returns-in_default c =
    rw (c.check_tree-tree.ensures, sym (ap (λ t. t.verdict) c.check_tree-tree.ensures) ∙ c.in_default.is)

pub overflow_add-place : goal.overflow_add-place
overflow_add-place c = record { fits = let h = place-below _ _ _ _ (sym (ap (λ t. t.verdict) c.check_tree-tree.ensures) ∙ c.in-Err.is) in omega arith }

pub returns : goal.returns
unfolding frame_check frame_rule
returns c =
    rw (c.check_tree-tree.ensures, sym (ap (λ t. t.verdict) c.check_tree-tree.ensures) ∙ c.in-Err.is, c.node_error.ensures)
