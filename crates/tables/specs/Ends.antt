-- How a range is known to be one tree without going through its nodes: by where the tree that starts at its first node ends.
use Rattle.std.specs.Prelude.{ℕ, ◌+◌, ◌<◌, ◌≤◌, List, ◌≡◌, eqb, get_or, length}
use Rattle.tables.specs.Rows.{node_limit, node_rows}
use Rattle.tables.specs.Tree.{trees_from}

-- e is the row after the tree that starts at row i, or one past the row after the last, where the tree does not end in the table: past row i in any case, but for an i past the table
pub record TreeEnd (nodes : List ℕ) (i e : ℕ) : Type 0 where
  pub within : e ≤ node_rows nodes + 1
  pub after : (k : ℕ) → k ≤ i → k ≤ node_rows nodes → k < e
  pub exact : (n : ℕ) → 0 < n → i + n ≤ node_rows nodes → trees_from nodes 1 i n ≡ eqb e (i + n)

-- the ends of the trees of row i and the rows after it, in a list that has room for two more
pub record EndsFrom (nodes ends : List ℕ) (i : ℕ) : Type 0 where
  pub room : node_rows nodes + 1 < length ends
  pub rows : node_rows nodes ≤ node_limit
  pub each : (k : ℕ) → i ≤ k → k ≤ node_rows nodes + 1 → TreeEnd nodes k (get_or ends k 0)
