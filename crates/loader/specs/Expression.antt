-- 2 of the walk, as one pass over an expression's nodes meets it: the words of each node, and "exactly one tree".
use Rattle.std.specs.Prelude.{ℕ, Bool, ◌&&◌, List}
use Rattle.tables.specs.Tree.{trees_from}
use Rattle.word_rules.specs.Allowed.{nodes_allowed_from}

-- the n rows from row i on are allowed and exactly `trees` trees
abbrev pub trees_allowed : List ℕ → ℕ → ℕ → ℕ → Bool
trees_allowed nodes trees i n = nodes_allowed_from nodes i n && trees_from nodes trees i n
