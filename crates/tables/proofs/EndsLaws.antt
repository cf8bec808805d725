-- Laws of where trees end: a node's by its number of children, from the ends of the trees after it. Assumes nothing.
use Rattle.std.proofs.Common.{ℕ, zero, suc, ◌+◌, ◌-◌, ◌<◌, ◌≤◌, Bool, true, false, List, ◌≡◌, refl, sym, ap, ◌∙◌, arith, eq-eqb, ne_eqb, eqb-true, leb-true, leb-false, eqb, leb, get_or}
use native.Mathlib.Decide.{ℕ_discrete}
use Rattle.tables.specs.Rows.{node_rows, node_tag}
use Rattle.tables.specs.Tree.{arity_of, trees_from}
use Rattle.tables.specs.Ends.{TreeEnd, EndsFrom}
use Rattle.tables.proofs.FirstLaws.{never}

one_not_none : ◌≡◌ {A = ℕ} 1 0 → ⊥
one_not_none z = omega (arith, z)

module _ (nodes : List ℕ) where
  -- the row i starts one of the trees
  next_tree : (trees i n : ℕ) → (trees ≡ 0 → ⊥) → trees_from nodes trees i (suc n) ≡ trees_from nodes (trees - 1 + arity_of (node_tag nodes i)) (i + 1) n
  unfolding trees_from
  next_tree trees i n h = rw (ne_eqb trees 0 h)

  some_tree : (trees i n : ℕ) → trees_from nodes trees i (suc n) ≡ true → trees ≡ 0 → ⊥
  unfolding trees_from
  some_tree trees i n e z = never (sym (sym e ∙ rw (eq-eqb trees 0 z)))

  no_rows : (trees i : ℕ) → trees_from nodes trees i 0 ≡ eqb trees 0
  unfolding trees_from
  no_rows trees i = refl

  -- whole trees are passed, and the others go on
  after_trees : (trees others i m n : ℕ) → trees_from nodes trees i m ≡ true → trees_from nodes (trees + others) i (m + n) ≡ trees_from nodes others (i + m) n
  after_trees trees others i zero n e =
      let z : trees ≡ 0 = eqb-true trees 0 (sym (no_rows trees i) ∙ e) in
      let p : trees + others ≡ others = omega arith in
      let q : 0 + n ≡ n = omega arith in
      let r : i + 0 ≡ i = omega arith in
      rw (p, q, r)
  after_trees trees others i (suc m) n e =
      let h : trees ≡ 0 → ⊥ = some_tree trees i m e in
      let k : trees + others ≡ 0 → ⊥ = λ z. h (omega arith) in
      let p : suc m + n ≡ suc (m + n) = omega arith in
      let q : trees + others - 1 + arity_of (node_tag nodes i) ≡ trees - 1 + arity_of (node_tag nodes i) + others = omega arith in
      let r : i + 1 + m ≡ i + suc m = omega arith in
      rw p (next_tree (trees + others) i (m + n) k ∙ rw (q, ← r) (after_trees (trees - 1 + arity_of (node_tag nodes i)) others (i + 1) m n (sym (next_tree trees i m h) ∙ e)))

  -- the first of some rows that are so many trees
  record Part (trees i n : ℕ) : Type 0 where
    pub rows : ℕ
    pub some : 0 < rows
    pub within : rows ≤ n
    pub whole : trees_from nodes trees i rows ≡ true

  -- of rows that are some trees and then others, the first are the trees
  first_trees : (trees others i n : ℕ) → (trees ≡ 0 → ⊥) → trees_from nodes (trees + others) i n ≡ true → Part trees i n
  first_trees trees others i zero h e = let z : trees + others ≡ 0 = eqb-true _ 0 (sym (no_rows (trees + others) i) ∙ e) in absurd (h (omega arith))
  first_trees trees others i (suc n) h e = at (ℕ_discrete rest 0) (λ ne e. first_trees rest others (i + 1) n ne e)
    where
      rest : ℕ
      rest = trees - 1 + arity_of (node_tag nodes i)

      more : Part rest (i + 1) n → Part trees i (suc n)
      more p = record { rows = suc p.rows; some = omega arith; within = let l = p.within in omega (arith, l); whole = next_tree trees i p.rows h ∙ p.whole }

      at : Dec (rest ≡ 0) → ((rest ≡ 0 → ⊥) → trees_from nodes (rest + others) (i + 1) n ≡ true → Part rest (i + 1) n) → Part trees i (suc n)
      at (yes z) ih = record { rows = 1; some = omega arith; within = omega arith; whole = next_tree trees i 0 h ∙ (no_rows rest (i + 1) ∙ eq-eqb rest 0 z) }
      at (no ne) ih =
          let q : trees + others - 1 + arity_of (node_tag nodes i) ≡ rest + others = omega arith in
          more (ih ne (ap (λ t. trees_from nodes t (i + 1) n) (sym q) ∙ (sym (next_tree (trees + others) i n (λ z. h (omega arith))) ∙ e)))

  -- a tree's end is no row at or before its first
  not_end : (i e k : ℕ) → TreeEnd nodes i e → k ≤ i → k ≤ node_rows nodes → eqb e k ≡ false
  not_end i e k t l h = ne_eqb e k (λ q. let a = t.after k l h in omega (arith, a, q))

  -- no trees are no rows
  no_trees : (i n : ℕ) → trees_from nodes 0 i n ≡ eqb i (i + n)
  unfolding trees_from
  no_trees i zero = sym (eq-eqb i (i + 0) (omega arith))
  no_trees i (suc n) = sym (ne_eqb i (i + suc n) (λ q. omega (arith, q)))

  -- the tree of row i by its children's: `below` says when so many rows from the next one on are they
  by_children : (i e : ℕ) → e ≤ node_rows nodes + 1 → ((k : ℕ) → k ≤ i → k ≤ node_rows nodes → k < e)
      → ((n : ℕ) → i + 1 + n ≤ node_rows nodes → trees_from nodes (arity_of (node_tag nodes i)) (i + 1) n ≡ eqb e (i + 1 + n)) → TreeEnd nodes i e
  by_children i e w a below = record { within = w; after = a; exact = exactly }
    where
      exactly : (n : ℕ) → 0 < n → i + n ≤ node_rows nodes → trees_from nodes 1 i n ≡ eqb e (i + n)
      exactly zero p l = absurd (omega arith)
      exactly (suc n) p l =
          let q : i + 1 + n ≡ i + suc n = omega arith in
          let r : 1 - 1 + arity_of (node_tag nodes i) ≡ arity_of (node_tag nodes i) = omega arith in
          next_tree 1 i n one_not_none ∙ rw (r, ← q) (below n (omega arith))

  module _ (i : ℕ) (l : i < node_rows nodes) where
    pub end-leaf : arity_of (node_tag nodes i) ≡ 0 → TreeEnd nodes i (i + 1)
    end-leaf z = by_children i (i + 1) (omega arith) (λ k a b. omega arith) (λ n k. rw z (no_trees (i + 1) n))

    pub end-one : (e : ℕ) → arity_of (node_tag nodes i) ≡ 1 → TreeEnd nodes (i + 1) e → TreeEnd nodes i e
    end-one e z t = by_children i e t.within (λ k a b. t.after k (omega arith) b) (λ n k. rw z (at n k))
      where
        at : (n : ℕ) → i + 1 + n ≤ node_rows nodes → trees_from nodes 1 (i + 1) n ≡ eqb e (i + 1 + n)
        at zero k = no_rows 1 (i + 1) ∙ sym (not_end (i + 1) e (i + 1 + 0) t (omega arith) k)
        at (suc n) k = t.exact (suc n) (omega arith) k

    -- the second child's tree starts where the first's ends
    pub second-after : (f : ℕ) → TreeEnd nodes (i + 1) f → i + 1 < f
    second-after f t = t.after (i + 1) (omega arith) (omega arith)

    pub end_two : (f e : ℕ) → arity_of (node_tag nodes i) ≡ 2 → TreeEnd nodes (i + 1) f → TreeEnd nodes f e → TreeEnd nodes i e
    end_two f e z t u =
        let a : i + 1 < f = second-after f t in
        by_children i e u.within (λ k b c. u.after k (omega arith) c) (λ n k. rw z (at n k a (leb f (i + 1 + n)) refl (trees_from nodes 2 (i + 1) n) refl))
      where
        m : ℕ
        m = f - (i + 1)

        first : i + 1 < f → f ≤ node_rows nodes → trees_from nodes 1 (i + 1) m ≡ true
        first a w =
            let q : i + 1 + m ≡ f = omega arith in
            t.exact m (omega arith) (omega arith) ∙ eq-eqb f (i + 1 + m) (sym q)

        second : (n : ℕ) → f + n ≤ node_rows nodes → trees_from nodes 1 f n ≡ eqb e (f + n)
        second zero k = no_rows 1 f ∙ sym (not_end f e (f + 0) u (omega arith) k)
        second (suc n) k = u.exact (suc n) (omega arith) k

        at : (n : ℕ) → i + 1 + n ≤ node_rows nodes → i + 1 < f → (b : Bool) → leb f (i + 1 + n) ≡ b → (s : Bool) → trees_from nodes 2 (i + 1) n ≡ s
            → trees_from nodes 2 (i + 1) n ≡ eqb e (i + 1 + n)
        at n k a true c s d =
            let w : f ≤ i + 1 + n = leb-true _ _ c in
            let p : n ≡ m + (n - m) = omega arith in
            let q : i + 1 + m ≡ f = omega arith in
            let r : f + (n - m) ≡ i + 1 + n = omega arith in
            ap (trees_from nodes 2 (i + 1)) p
            ∙ (after_trees 1 1 (i + 1) m (n - m) (first a (omega arith)) ∙ (ap (λ j. trees_from nodes 1 j (n - m)) q ∙ (second (n - m) (omega arith) ∙ ap (eqb e) r)))
        at n k a false c true d =
            let w : i + 1 + n < f = leb-false _ _ c in
            let p : Part 1 (i + 1) n = first_trees 1 1 (i + 1) n one_not_none d in
            let b = p.within in
            let s = p.some in
            let q : f ≡ i + 1 + p.rows = eqb-true f (i + 1 + p.rows) (sym (t.exact p.rows s (omega (arith, b))) ∙ p.whole) in
            absurd (omega (arith, q, w, b))
        at n k a false c false d = let w : i + 1 + n < f = leb-false _ _ c in d ∙ sym (not_end f e (i + 1 + n) u (omega arith) k)

module _ (nodes ends : List ℕ) where
  -- a range is one tree where its first node's tree ends with it
  pub ends_tree : (first count : ℕ) → EndsFrom nodes ends 0 → first + count ≤ node_rows nodes → eqb (get_or ends first 0) (first + count) ≡ trees_from nodes 1 first count
  ends_tree first zero s l = not_end nodes first _ (first + 0) (s.each first (omega arith) (omega arith)) (omega arith) l ∙ sym (no_rows nodes 1 first)
  ends_tree first (suc n) s l = sym ((s.each first (omega arith) (omega arith)).exact (suc n) (omega arith) l)
