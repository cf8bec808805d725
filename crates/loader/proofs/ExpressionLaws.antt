-- One pass over an expression's nodes says what the rules of words and of trees say. Assumes nothing.
use Rattle.std.proofs.Common.{ℕ, zero, suc, ◌+◌, ◌-◌, ◌<◌, ◌≤◌, Bool, true, false, not, cond, ◌&&◌, List, ◌≡◌, refl, sym, ap, ◌∙◌, arith, eqb, le-leb, Some, None}
use Rattle.tables.specs.declared.refusal.Refusal.{Refusal}
use Rattle.tables.specs.First.{first, every_from, every}
use Rattle.tables.specs.Refusal.{word_not_allowed}
use Rattle.tables.specs.Rows.{node_width, node_limit, node_rows, node_tag, node_at}
use Rattle.tables.specs.Tree.{arity_of, trees_from, inside, one_tree}
use Rattle.tables.specs.Outcome.{◌>>◌, need}
use Rattle.tables.specs.declared.rows.Node.{Node}
use Rattle.tables.proofs.FirstLaws.{first_hit, first_miss, first-end}
use Rattle.tables.proofs.TreeLaws.{trees_stop, trees_step, trees_end}
use Rattle.tables.proofs.Passed.{and_false}
use Rattle.loader.specs.Shape.{whole_rows}
use Rattle.loader.specs.Load.{load_nodes_look}
use Rattle.word_rules.specs.Allowed.{node_allowed, nodes_allowed_from, nodes_allowed}
use Rattle.word_rules.specs.Children.{children_of}
use Rattle.loader.specs.Expression.{trees_allowed}
use Rattle.word_rules.proofs.ChildrenLaws.{children_count, children_refused}

module _ (nodes : List ℕ) (trees i n : ℕ) where
  -- the pass stops where no tree is left
  pub pass_stop : i < n → trees ≡ 0 → trees_allowed nodes trees i (n - i) ≡ false
  pass_stop h e = rw (trees_stop nodes trees i n h e) (and_false (nodes_allowed_from nodes i (n - i)))

  -- and at a node that is not allowed
  pub pass-refused : {x : Node} → x ≡ node_at nodes i → None ≡ children_of x → i < n → trees_allowed nodes trees i (n - i) ≡ false
  pass-refused e f h =
      let q : node_allowed (node_at nodes i) ≡ false = children_refused (node_at nodes i) (f ∙ ap children_of e) in
      rw (first_hit (λ k. not (node_allowed (node_at nodes k))) (λ k. false) true n i h (ap not q))

  pass-turn : i < n → (trees ≡ 0 → ⊥) → node_allowed (node_at nodes i) ≡ true
      → trees_allowed nodes trees i (n - i) ≡ trees_allowed nodes (trees - 1 + arity_of (node_tag nodes i)) (i + 1) (n - (i + 1))
  pass-turn h t e = rw (first_miss (λ k. not (node_allowed (node_at nodes k))) (λ k. false) true n i h (ap not e), trees_step nodes trees i n h t)

  -- a turn leaves the trees of the node's children in its tree's place
  pub pass-left : {x : Node} (c : ℕ) → x ≡ node_at nodes i → Some c ≡ children_of x → i < n → (trees ≡ 0 → ⊥)
      → trees_allowed nodes (trees - 1 + c) (i + 1) (n - (i + 1)) ≡ trees_allowed nodes trees i (n - i)
  pass-left c e f h t = let (a, b) = children_count (node_at nodes i) c (f ∙ ap children_of e) in rw b (sym (pass-turn h t a))

  pub pass-end : n ≤ i → trees_allowed nodes trees i (n - i) ≡ eqb trees 0
  pass-end h = rw (first-end (λ k. not (node_allowed (node_at nodes k))) (λ k. false) true n i h, trees_end nodes trees i n h)

cond-and : (t r s : Bool) → cond (not t) false (r && s) ≡ (cond (not t) false r && s)
cond-and true r s = refl
cond-and false r s = refl

-- the rows of two ranges, one after the other
every_append : (test : ℕ → Bool) (i m n : ℕ) → every_from test i (m + n) ≡ (every_from test i m && every_from test (i + m) n)
unfolding first
every_append test i zero n =
    let e : zero + n ≡ n = omega arith in
    let d : i + zero ≡ i = omega arith in
    rw (e, d)
every_append test i (suc m) n =
    let e : suc m + n ≡ suc (m + n) = omega arith in
    let d : i + suc m ≡ i + 1 + m = omega arith in
    rw (e, d, every_append test (i + 1) m n) (cond-and (test i) _ _)

ands : (a b c t : Bool) → ((b && t) && (a && c)) ≡ ((a && (b && c)) && t)
ands true true true true = refl
ands true true true false = refl
ands true true false true = refl
ands true true false false = refl
ands true false c t = refl
ands false true c true = refl
ands false true c false = refl
ands false false c t = refl

-- the range, and the rows before and after it
pub by_parts : (nodes : List ℕ) (i n : ℕ) → i + n ≤ node_rows nodes
    → (trees_allowed nodes 1 i (i + n - i) && (nodes_allowed_from nodes 0 (i - 0) && nodes_allowed_from nodes (i + n) (node_rows nodes - (i + n)))) ≡ (nodes_allowed nodes && one_tree nodes i n)
unfolding nodes_allowed every one_tree inside
by_parts nodes i n h =
    let test : ℕ → Bool = λ k. node_allowed (node_at nodes k) in
    let a : i + n - i ≡ n = omega arith in
    let b : i - 0 ≡ i = omega arith in
    let c : node_rows nodes ≡ i + (n + (node_rows nodes - (i + n))) = omega arith in
    let d : 0 + i ≡ i = omega arith in
    let all : every_from test 0 (node_rows nodes) ≡ (every_from test 0 i && (every_from test i n && every_from test (i + n) (node_rows nodes - (i + n)))) =
    ap (every_from test 0) c ∙ (every_append test 0 i _ ∙ rw (d, every_append test i n (node_rows nodes - (i + n)))) in
    rw (a, b, le-leb (i + n) (node_rows nodes) h) (ands (every_from test 0 i) (every_from test i n) (every_from test (i + n) (node_rows nodes - (i + n))) (trees_from nodes 1 i n) ∙ ap (λ r. r && trees_from nodes 1 i n) (sym all))

-- a range outside its table
pub outside : (nodes : List ℕ) (i n : ℕ) → inside i n (node_rows nodes) ≡ false → false ≡ (nodes_allowed nodes && one_tree nodes i n)
unfolding one_tree
outside nodes i n e = rw e (sym (and_false (nodes_allowed nodes)))

-- two looks with one refusal are one
one_look : (a b : Bool) (r : Refusal) → need (a && b) r ≡ (need a r >> need b r)
unfolding ◌>>◌ need
one_look true b r = refl
one_look false b r = refl

-- the walk's looks at nodes in whole rows
pub nodes_look : (nodes : List ℕ) (i n : ℕ) (b : Bool) → whole_rows node_width node_limit nodes ≡ true → b ≡ (nodes_allowed nodes && one_tree nodes i n)
    → need b word_not_allowed ≡ load_nodes_look nodes i n
unfolding load_nodes_look ◌>>◌ need
nodes_look nodes i n b w e = rw (w, e) (one_look (nodes_allowed nodes) (one_tree nodes i n) word_not_allowed)
