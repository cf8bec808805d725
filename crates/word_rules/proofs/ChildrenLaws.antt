-- What a node's answer says of its words and its children. Assumes nothing.
use Rattle.std.proofs.Common.{ℕ, ◌≤◌, Bool, true, false, cond, ◌≡◌, refl, arith, Some, None}
use Rattle.tables.specs.Tree.{arity_of}
use Rattle.tables.specs.declared.rows.Node.{Node}
use Rattle.tables.proofs.TreeLaws.{arity_le}
use Rattle.word_rules.specs.Allowed.{node_allowed}
use Rattle.word_rules.specs.Children.{children_of}

count_told : (b : Bool) (k l : ℕ) → Some l ≡ cond b (Some k) None → (b ≡ true) × (l ≡ k)
count_told true k l e = (refl, cc)
count_told false k l e = let z : ◌≡◌ {A = ℕ} 0 1 = cc in absurd (omega arith)

refused_told : (b : Bool) (k : ℕ) → None ≡ cond b (Some k) None → b ≡ false
refused_told true k e = let z : ◌≡◌ {A = ℕ} 0 1 = cc in absurd (omega arith)
refused_told false k e = refl

module _ (x : Node) where
  pub children_count : (n : ℕ) → Some n ≡ children_of x → (node_allowed x ≡ true) × (n ≡ arity_of x.tag)
  children_count n e = count_told (node_allowed x) (arity_of x.tag) n e

  pub children_refused : None ≡ children_of x → node_allowed x ≡ false
  children_refused e = refused_told (node_allowed x) (arity_of x.tag) e

  pub children_le : (n : ℕ) → Some n ≡ children_of x → n ≤ 2
  children_le n e = let (a, q) = children_count n e in omega (arith, arity_le x.tag, q)
