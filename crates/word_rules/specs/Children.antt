-- What a pass over the nodes asks of each: 2 of its words, and how many children it has.
use Rattle.std.specs.Prelude.{ℕ, Option, Some, None}
use Rattle.std.specs.Prelude.{cond}
use Rattle.tables.specs.Tree.{arity_of}
use Rattle.tables.specs.declared.rows.Node.{Node}
use Rattle.word_rules.specs.Allowed.{node_allowed}

-- how many children a node has; refused where its words are
abbrev pub children_of : Node → Option ℕ
children_of x = cond (node_allowed x) (Some (arity_of x.tag)) None
