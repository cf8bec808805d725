use Rattle.std.proofs.Common.{true, false, sym, ◌∙◌}
use Rattle.tables.specs.Rows.{node_width, node_limit}
use Rattle.tables.specs.Outcome.{◌>>=◌, ◌>>◌, need}
use Rattle.loader.specs.Load.{load_nodes_look}
use Rattle.loader.proofs.Loaded.{few}
use Rattle.loader.proofs.ExpressionLaws.{nodes_look}
use Rattle.loader.proofs.load.load_nodes.Goals as goal

pub returns-then-not-whole_rows : goal.returns-then-not-whole_rows
unfolding load_nodes_look ◌>>=◌ ◌>>◌ need
returns-then-not-whole_rows c = rw (sym c.whole_rows.ensures ∙ c.if-not-whole_rows.true)

pub expression_allowed-requires : goal.expression_allowed-requires
expression_allowed-requires c = few node_width node_limit _ (sym c.whole_rows.ensures ∙ c.if-not-whole_rows.false)

pub returns-then-not-expression_allowed : goal.returns-then-not-expression_allowed
unfolding need
returns-then-not-expression_allowed c = nodes_look _ _ _ false (sym c.whole_rows.ensures ∙ c.if-not-whole_rows.false) (sym c.if-not-expression_allowed.true ∙ c.expression_allowed.ensures)

pub returns : goal.returns
unfolding need
returns c = nodes_look _ _ _ true (sym c.whole_rows.ensures ∙ c.if-not-whole_rows.false) (sym c.if-not-expression_allowed.false ∙ c.expression_allowed.ensures)
