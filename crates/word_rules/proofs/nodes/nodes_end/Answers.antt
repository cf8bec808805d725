use Rattle.std.proofs.Common.{◌≡◌, sym, ap, subst, ◌∙◌, ◌-◌, arith, ℕ}
use Rattle.tables.specs.Rows.{node_at}
use Rattle.tables.specs.Ends.{EndsFrom}
use Rattle.tables.proofs.FirstLaws.{never}
use Rattle.word_rules.specs.Children.{children_of}
use Rattle.word_rules.proofs.ChildrenLaws.{children_refused}
use Rattle.word_rules.proofs.NodesLaws.{AllowedFrom, allowed_all, allowed_miss}
use Rattle.word_rules.proofs.nodes.nodes_end.Goals as goal

pub returns-in_default : goal.returns-in_default
returns-in_default c =
    let row : ℕ = c.loop-row.row - 1 in
    (allowed_miss c.args.nodes.now row (omega arith) (children_refused (node_at c.args.nodes.now row) (sym c.in_default.is ∙ (c.children_of.ensures ∙ ap children_of c.node_at.ensures))), λ z. never z)

pub returns : goal.returns
returns c =
    let z : c.loop-row.row ≡ 0 = omega arith in
    (allowed_all c.args.nodes.now (subst (AllowedFrom c.args.nodes.now) z c.loop-row.invariant.allowed), λ t. subst (EndsFrom c.args.nodes.now c.loop-row.ends) z c.loop-row.invariant.ends)
