-- 01, "Reference walk": "As `MemoryReferences`, a reader over the lent nodes hands out the next reference, left to right, repeats kept, then an end for good."
use Rattle.std.specs.Prelude.{ℕ, zero, suc, ◌+◌, ◌-◌, ◌*◌, Bool, cond, List, [], ◌∷◌, ◌++◌, take, drop, eqb, Some, None}
use Rattle.tables.specs.First.{first}
use Rattle.tables.specs.NodeTag as tag
use Rattle.tables.specs.Rows.{node_rows, node_tag, node_at, node_width}
use Rattle.tables.specs.Tree.{arity_of}
use Rattle.memory.specs.declared.MemoryReference.{MemoryReference}
use Rattle.memory.specs.declared.Stepped.{Stepped}

-- "0 address (name, index)"
abbrev pub is_address : List ℕ → ℕ → Bool
is_address nodes i = eqb (node_tag nodes i) tag.address

-- the reference that an address is
abbrev pub reference_at : List ℕ → ℕ → MemoryReference
reference_at nodes i = record { name = (node_at nodes i).first; index = (node_at nodes i).second }

-- a tree's references, left to right, and the row after its last
pub record Walked : Type 0 where
  pub references : List MemoryReference
  pub after : ℕ

-- a node without children: its own reference, if it is an address
abbrev pub leaf : List ℕ → ℕ → Walked
leaf nodes i = record { references = cond (is_address nodes i) (reference_at nodes i ∷ []) []; after = i + 1 }

-- the left tree's, then those of the right tree, which begins at the row after the left
abbrev pub left_then_right : Walked → (ℕ → Walked) → Walked
left_then_right left right =
    record { references = left.references ++ (right left.after).references; after = (right left.after).after }

-- by the number of children
abbrev pub by_arity : ℕ → Walked → Walked → (ℕ → Walked) → Walked
by_arity zero own left right = own
by_arity (suc zero) own left right = left
by_arity (suc (suc n)) own left right = left_then_right left right

-- "node rows and recursion on what is left": the tree whose root is row i, with n rows left
unfoldable pub tree_at : List ℕ → ℕ → ℕ → Walked
tree_at nodes i zero = record { references = []; after = i }
tree_at nodes i (suc n) = by_arity (arity_of (node_tag nodes i)) (leaf nodes i) (tree_at nodes (i + 1) n) (λ k. tree_at nodes k n)

-- the references of the tree that the n rows from row i on are
unfoldable pub references : List ℕ → ℕ → ℕ → List MemoryReference
references nodes i n = (tree_at nodes i n).references

-- the references that are addresses among the n rows from row i on, in row order: of exactly one tree they are its references (Walk.antt)
unfoldable pub row_references : List ℕ → ℕ → ℕ → List MemoryReference
row_references nodes i zero = []
row_references nodes i (suc n) =
    cond (is_address nodes i) (reference_at nodes i ∷ row_references nodes (i + 1) n) (row_references nodes (i + 1) n)

-- row i is handed out, and the place is after it
abbrev pub handed_out : List ℕ → ℕ → Stepped
handed_out nodes i = record { found = Some (reference_at nodes i); place = i + 1 }

-- the place is past the rows, so the end is for good (Walk.antt)
abbrev pub ended : List ℕ → Stepped
ended nodes = record { found = None; place = node_rows nodes }

-- among the n rows from row i on
abbrev pub next_from : List ℕ → ℕ → ℕ → Stepped
next_from nodes i n = first (is_address nodes) (handed_out nodes) (ended nodes) i n

-- "hands out the next reference": the first at or after the place, or the end
unfoldable pub next_of : List ℕ → ℕ → Stepped
next_of nodes place = next_from nodes place (node_rows nodes - place)

-- the nodes of the n rows from row i on
abbrev pub nodes_in : List ℕ → ℕ → ℕ → List ℕ
nodes_in nodes i n = take (n * node_width) (drop (i * node_width) nodes)

-- the same in a range that is "exactly one tree": the place counts the tree's nodes that were passed, 0 at first
unfoldable pub next_in : List ℕ → ℕ → ℕ → ℕ → Stepped
next_in nodes i n place = next_of (nodes_in nodes i n) place
