-- 01's node rows: "A parent precedes its children, left first."
use Rattle.std.specs.Prelude.{ℕ, zero, suc, ◌+◌, ◌-◌, Bool, false, cond, ◌&&◌, List, [], ◌∷◌, eqb, leb}
use Rattle.tables.specs.Cases.{case_of}
use Rattle.tables.specs.NodeTag as tag
use Rattle.tables.specs.Rows.{node_rows, node_tag}

-- "1 function call, 2 infix, .. 5 prefix": how many children a node of that tag has
abbrev pub children_by_tag : List (ℕ × ℕ)
children_by_tag = (tag.function_call, 1) ∷ (tag.infix_expression, 2) ∷ (tag.prefix_expression, 1) ∷ []

-- the other nodes have none
unfoldable pub arity_of : ℕ → ℕ
unfolding case_of
arity_of tag = case_of tag children_by_tag 0

-- whether the n rows from row i on are exactly `trees` trees, one after the other: a row starts the next tree, whose children's trees follow it
unfoldable pub trees_from : List ℕ → ℕ → ℕ → ℕ → Bool
trees_from nodes trees i zero = eqb trees 0
trees_from nodes trees i (suc n) =
    cond (eqb trees 0) false (trees_from nodes (trees - 1 + arity_of (node_tag nodes i)) (i + 1) n)

-- a range of `count` rows from row `first` on lies in a table of that many rows
unfoldable pub inside : ℕ → ℕ → ℕ → Bool
inside first count rows = leb (first + count) rows

-- "exactly one tree (2 otherwise; a walk takes such a range too)"
unfoldable pub one_tree : List ℕ → ℕ → ℕ → Bool
one_tree nodes first count = inside first count (node_rows nodes) && trees_from nodes 1 first count
