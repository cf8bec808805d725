-- The references of exactly one tree are its address rows, in row order. Assumes nothing.
use Rattle.std.proofs.Common.{ℕ, zero, suc, ◌+◌, ◌-◌, ◌≤◌, Bool, true, false, cond, List, ◌∷◌, ◌++◌, ◌≡◌, refl, sym, ap, ◌∙◌, add-one, arith, ne_eqb, eqb}
use Rattle.tables.proofs.FirstLaws.{never}
use Rattle.tables.specs.Rows.{node_rows, node_tag}
use Rattle.tables.specs.Tree.{arity_of, trees_from, inside, one_tree}
use Rattle.tables.proofs.Passed.{both}
use Rattle.tables.proofs.TreeLaws.{arity_le, inside_le}
use Rattle.memory.specs.References.{is_address, reference_at, Walked, tree_at, references, row_references}
use Rattle.memory.specs.declared.MemoryReference.{MemoryReference}

module _ (nodes : List ℕ) (i n : ℕ) (e : one_tree nodes i n ≡ true) where
  parts : (inside i n (node_rows nodes) ≡ true) × (trees_from nodes 1 i n ≡ true)
  unfolding one_tree
  parts = both (inside i n (node_rows nodes)) (trees_from nodes 1 i n) e

  -- a range that is one tree lies in its table
  pub one_tree-inside : i + n ≤ node_rows nodes
  one_tree-inside = inside_le i n (node_rows nodes) parts.0

cond-append : (b : Bool) (x : MemoryReference) (l m : List MemoryReference) → cond b (x ∷ (l ++ m)) (l ++ m) ≡ cond b (x ∷ l) l ++ m
cond-append true x l m = refl
cond-append false x l m = refl

-- the addresses of two ranges, one after the other
row_references-append : (nodes : List ℕ) (i m n : ℕ) → row_references nodes i (m + n) ≡ row_references nodes i m ++ row_references nodes (i + m) n
unfolding row_references
row_references-append nodes i zero n =
    let e : zero + n ≡ n = omega arith in
    let d : i + zero ≡ i = omega arith in
    rw (e, d)
row_references-append nodes i (suc m) n =
    let e : suc m + n ≡ suc (m + n) = omega arith in
    let d : i + suc m ≡ i + 1 + m = omega arith in
    rw (e, d, row_references-append nodes (i + 1) m n) (cond-append (is_address nodes i) (reference_at nodes i) _ _)

-- an address has no children
inner : (tag a : ℕ) → arity_of tag ≡ suc a → eqb tag 0 ≡ false
unfolding arity_of
inner tag a e = ne_eqb tag 0 (λ z. let h : ◌≡◌ {A = ℕ} 0 (suc a) = ap arity_of (sym z) ∙ e in omega arith)

-- of the n rows from row i on, which are one tree and then k more, the tree's are the first m; f bounds the recursion
record Cut (nodes : List ℕ) (k i n f : ℕ) : Type 0 where
  m : ℕ
  within : m ≤ n
  tree : tree_at nodes i f ≡ record { references = row_references nodes i m; after = i + m }
  others : trees_from nodes k (i + m) (n - m) ≡ true

abbrev Cuts : List ℕ → ℕ → Type 0
Cuts nodes f = (n k i : ℕ) → n ≤ f → trees_from nodes (suc k) i n ≡ true → Cut nodes k i n f

cut_root : (nodes : List ℕ) (f n k i : ℕ) → Cuts nodes f → n ≤ f → (a : ℕ) → arity_of (node_tag nodes i) ≡ a → trees_from nodes (k + a) (i + 1) n ≡ true → Cut nodes k i (suc n) (suc f)
unfolding tree_at row_references
cut_root nodes f n k i ih h zero e t =
    record {
      m = 1;
      within = omega arith;
      tree = rw e;
      others =
          let p : suc n - 1 ≡ n = omega arith in
          let z : k + 0 ≡ k = omega arith in
          rw p (rw z at t);
    }
cut_root nodes f n k i ih h (suc zero) e t =
    let c : Cut nodes k (i + 1) n f = ih n k (i + 1) h (rw (add-one k) at t) in
    let q : c.m ≤ n = c.within in
    let p : i + suc c.m ≡ i + 1 + c.m = omega arith in
    record {
      m = suc c.m;
      within = omega arith;
      tree = rw (e, inner (node_tag nodes i) 0 e, p) c.tree;
      others = let z : suc n - suc c.m ≡ n - c.m = omega arith in rw (p, z) c.others;
    }
cut_root nodes f n k i ih h (suc (suc zero)) e t =
    let c : Cut nodes (suc k) (i + 1) n f = ih n (suc k) (i + 1) h (rw (let p : k + 2 ≡ suc (suc k) = omega arith in p) at t) in
    let q : c.m ≤ n = c.within in
    let d : Cut nodes k (i + 1 + c.m) (n - c.m) f = ih (n - c.m) k (i + 1 + c.m) (omega arith) c.others in
    let r : d.m ≤ n - c.m = d.within in
    let p : i + suc (c.m + d.m) ≡ i + 1 + c.m + d.m = omega arith in
    record {
      m = suc (c.m + d.m);
      within = omega arith;
      tree = rw (e, inner (node_tag nodes i) 1 e, p, row_references-append nodes (i + 1) c.m d.m, c.tree, d.tree);
      others = let z : suc n - suc (c.m + d.m) ≡ n - c.m - d.m = omega arith in rw (p, z) d.others;
    }
cut_root nodes f n k i ih h (suc (suc (suc a))) e t = let l : arity_of (node_tag nodes i) ≤ 2 = arity_le (node_tag nodes i) in absurd (omega arith)

empty : (nodes : List ℕ) (k i n : ℕ) {A : Type 0} → n ≡ 0 → trees_from nodes (suc k) i n ≡ true → A
unfolding trees_from
empty nodes k i zero h e = never (sym (ne_eqb (suc k) 0 (λ z. omega arith)) ∙ e)
empty nodes k i (suc n) h e = absurd (omega arith)

cut_some : (nodes : List ℕ) (f n k i : ℕ) → Cuts nodes f → n ≤ suc f → trees_from nodes (suc k) i n ≡ true → Cut nodes k i n (suc f)
unfolding trees_from
cut_some nodes f zero k i ih h e = empty nodes k i zero refl e
cut_some nodes f (suc n) k i ih h e =
    let d : suc k - 1 ≡ k = omega arith in
    let z : eqb (suc k) 0 ≡ false = ne_eqb (suc k) 0 (λ y. omega arith) in
    cut_root nodes f n k i ih (omega arith) (arity_of (node_tag nodes i)) refl (rw (z, d) at e)

cut : (nodes : List ℕ) (f : ℕ) → Cuts nodes f
cut nodes zero n k i h e = empty nodes k i n (omega arith) e
cut nodes (suc f) n k i h e = cut_some nodes f n k i (cut nodes f) h e

none_left : (nodes : List ℕ) (i n : ℕ) → trees_from nodes 0 i n ≡ true → n ≡ 0
unfolding trees_from
none_left nodes i zero e = refl
none_left nodes i (suc n) e = never e

-- THE LAW: rows that are exactly one tree have its references, left to right, as their addresses in row order
pub references_by_row : (nodes : List ℕ) (i n : ℕ) → one_tree nodes i n ≡ true → references nodes i n ≡ row_references nodes i n
unfolding references
references_by_row nodes i n e =
    let c : Cut nodes 0 i n n = cut nodes n n 0 i (omega arith) (parts nodes i n e).1 in
    let q : c.m ≤ n = c.within in
    let z : n - c.m ≡ 0 = none_left nodes (i + c.m) (n - c.m) c.others in
    let s : c.m ≡ n = omega arith in
    ap (λ (w : Walked). w.references) c.tree ∙ ap (row_references nodes i) s
