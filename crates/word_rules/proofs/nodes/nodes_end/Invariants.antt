use Rattle.tables.specs.Ends.{TreeEnd, EndsFrom}
use Rattle.word_rules.proofs.NodesLaws.{AllowedFrom}
use Rattle.word_rules.proofs.nodes.nodes_end.Given as goal

abbrev pub invariant-loop-row : goal.invariant-loop-row
invariant-loop-row l = record { tree : TreeEnd l.nodes l.row l.end; ends : EndsFrom l.nodes l.ends l.row; allowed : AllowedFrom l.nodes l.row }
