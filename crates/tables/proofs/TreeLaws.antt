-- Laws of ranges and trees of nodes. Assumes nothing.
use Rattle.std.proofs.Common.{ℕ, ◌+◌, ◌-◌, ◌<◌, ◌≤◌, Bool, true, false, cond, List, ◌≡◌, sym, ◌∙◌, arith, eq-eqb, ne_eqb, leb-true, eqb}
use Rattle.tables.specs.NodeTag as tag
use Rattle.tables.specs.Rows.{node_tag}
use Rattle.tables.specs.Tree.{arity_of, trees_from, inside}
use Rattle.tables.proofs.FirstLaws.{left_suc}

module _ (nodes : List ℕ) (trees i n : ℕ) where
  pub trees_stop : i < n → trees ≡ 0 → trees_from nodes trees i (n - i) ≡ false
  unfolding trees_from
  trees_stop h e = rw (left_suc n i h, eq-eqb trees 0 e)

  pub trees_step : i < n → (trees ≡ 0 → ⊥) → trees_from nodes trees i (n - i) ≡ trees_from nodes (trees - 1 + arity_of (node_tag nodes i)) (i + 1) (n - (i + 1))
  unfolding trees_from
  trees_step h e = rw (left_suc n i h, ne_eqb trees 0 e)

  pub trees_end : n ≤ i → trees_from nodes trees i (n - i) ≡ eqb trees 0
  unfolding trees_from
  trees_end h = let e : n - i ≡ 0 = omega arith in rw e

cond_le : (b : Bool) (x y n : ℕ) → x ≤ n → y ≤ n → cond b x y ≤ n
cond_le true x y n h k = h
cond_le false x y n h k = k

-- no node has more than two children
pub arity_le : (x : ℕ) → arity_of x ≤ 2
unfolding arity_of
arity_le x =
    cond_le (eqb x tag.function_call) _ _ 2 (omega arith)
    (cond_le (eqb x tag.infix_expression) _ _ 2 (omega arith) (cond_le (eqb x tag.prefix_expression) _ _ 2 (omega arith) (omega arith)))

-- a range that lies in its table
pub inside_le : (first count rows : ℕ) → inside first count rows ≡ true → first + count ≤ rows
unfolding inside
inside_le first count rows e = leb-true (first + count) rows e

-- the same of its test's answer
pub passed_le : {r : Bool} (first count rows : ℕ) → r ≡ inside first count rows → r ≡ true → first + count ≤ rows
passed_le first count rows e t = inside_le first count rows (sym e ∙ t)
