-- What a pass over the nodes, from the last to the first, says of all of them. Assumes nothing.
use Rattle.std.proofs.Common.{ℕ, ◌≤◌, ◌<◌, true, false, List, ◌≡◌, sym, arith}
use Rattle.tables.specs.Rows.{node_rows, node_at}
use Rattle.tables.proofs.FirstLaws.{every-all, every_miss}
use Rattle.word_rules.specs.Allowed.{node_allowed, nodes_allowed}

-- the nodes from row i on are allowed
abbrev pub AllowedFrom : List ℕ → ℕ → Type 0
AllowedFrom nodes i = (k : ℕ) → i ≤ k → k < node_rows nodes → node_allowed (node_at nodes k) ≡ true

module _ (nodes : List ℕ) where
  pub allowed_all : AllowedFrom nodes 0 → true ≡ nodes_allowed nodes
  unfolding nodes_allowed
  allowed_all all = sym (every-all _ _ (λ k h. all k (omega arith) h))

  pub allowed_miss : (k : ℕ) → k < node_rows nodes → node_allowed (node_at nodes k) ≡ false → false ≡ nodes_allowed nodes
  unfolding nodes_allowed
  allowed_miss k h e = every_miss _ _ k h e
