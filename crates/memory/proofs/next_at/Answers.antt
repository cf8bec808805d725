use Rattle.std.proofs.Common.{sym, ap, ◌∙◌, ◌≡◌, arith, eq-eqb, ne_eqb}
use Rattle.tables.specs.declared.rows.Node.{Node}
use Rattle.tables.proofs.FirstLaws.{first_hit, first_miss, first-end}
use Rattle.memory.proofs.next_at.Goals as goal

tag_of : {node decoded : Node} → node ≡ decoded → decoded.tag ≡ node.tag
tag_of e = ap (λ (x : Node). x.tag) (sym e)

pub returns-then-node-eq-ADDRESS : goal.returns-then-node-eq-ADDRESS
returns-then-node-eq-ADDRESS c = rw c.node_at-node.ensures (sym (first_hit _ _ _ _ _ (omega arith) (eq-eqb _ _ (tag_of c.node_at-node.ensures ∙ c.if-node-eq-ADDRESS.true))) ∙ c.loop-i.invariant)

pub loop-i-preserved : goal.loop-i-preserved
loop-i-preserved c = sym (first_miss _ _ _ _ _ (omega arith) (ne_eqb _ _ (λ e. c.if-node-eq-ADDRESS.false (sym (tag_of c.node_at-node.ensures) ∙ e)))) ∙ c.loop-i.invariant

pub returns : goal.returns
returns c = sym (first-end _ _ _ _ _ (omega arith)) ∙ c.loop-i.invariant
