-- What the calls of a walk hand out, one after the other. Assumes nothing.
use Rattle.std.proofs.Common.{ℕ, zero, suc, ◌+◌, ◌-◌, ◌*◌, ◌<◌, ◌≤◌, Bool, true, false, cond, List, [], ◌∷◌, ◌≡◌, refl, sym, ap, ◌∙◌, arith, length, get_or, take, length-take, length-drop, take_all, get_or-take, get_or-drop, Option, Some, None}
use Rattle.tables.specs.First.{first}
use Rattle.tables.specs.Rows.{node_rows}
use Rattle.tables.specs.Tree.{one_tree}
use Rattle.memory.specs.References.{is_address, reference_at, references, row_references, handed_out, ended, next_from, next_of, nodes_in, next_in}
use Rattle.memory.specs.Batch.{Batch, step_then, batch_of, batch_in}
use Rattle.memory.specs.Walk.{kth_call, kth_of, Walk, going_on, Batches}
use Rattle.memory.specs.declared.MemoryReference.{MemoryReference}
use Rattle.memory.specs.declared.Stepped.{Stepped}
use Rattle.memory.proofs.ReferenceLaws.{one_tree-inside, references_by_row}

-- the addresses at or after a place
abbrev rest : List ℕ → ℕ → List MemoryReference
rest nodes place = row_references nodes place (node_rows nodes - place)

-- what a step says of the addresses at or after the place that it was made from
abbrev told : List ℕ → Option MemoryReference → ℕ → List MemoryReference
told nodes (Some r) place = r ∷ rest nodes place
told nodes None place = []

-- a step where these addresses are left: it hands out the first of them, and leads past the rows where there is none
record Step (nodes : List ℕ) (left : List MemoryReference) (s : Stepped) : Type 0 where
  says : left ≡ told nodes s.found s.place
  over : s.found ≡ None → s ≡ ended nodes

step_or_skip : (nodes : List ℕ) (b : Bool) (i n : ℕ) (s : Stepped) → suc n ≡ node_rows nodes - i → Step nodes (row_references nodes (i + 1) n) s
    → Step nodes (cond b (reference_at nodes i ∷ row_references nodes (i + 1) n) (row_references nodes (i + 1) n)) (cond b (handed_out nodes i) s)
step_or_skip nodes true i n s h l =
    record {
      says = let e : n ≡ node_rows nodes - (i + 1) = omega arith in ap (λ (k : ℕ). reference_at nodes i ∷ row_references nodes (i + 1) k) e;
      over = λ e. let z : ◌≡◌ {A = ℕ} 0 1 = cc in absurd (omega arith);
    }
step_or_skip nodes false i n s h l = l

step_from : (nodes : List ℕ) (i n : ℕ) → n ≡ node_rows nodes - i → Step nodes (row_references nodes i n) (next_from nodes i n)
unfolding first row_references
step_from nodes i zero h = record { says = refl; over = λ e. refl }
step_from nodes i (suc n) h = step_or_skip nodes (is_address nodes i) i n (next_from nodes (i + 1) n) h (step_from nodes (i + 1) n (omega arith))

next-step : (nodes : List ℕ) (place : ℕ) → Step nodes (rest nodes place) (next_of nodes place)
unfolding next_of
next-step nodes place = step_from nodes place (node_rows nodes - place) refl

-- the k-th of the addresses left, by one step
told_first : (nodes : List ℕ) (s : Option MemoryReference) (p : ℕ) → s ≡ kth_of (told nodes s p) 0
unfolding kth_of
told_first nodes (Some r) p = refl
told_first nodes None p = refl

told_later : (nodes : List ℕ) (s : Option MemoryReference) (p k : ℕ) → (s ≡ None → p ≡ node_rows nodes) → kth_of (rest nodes p) k ≡ kth_of (told nodes s p) (suc k)
unfolding kth_of row_references
told_later nodes (Some r) p k h = refl
told_later nodes None p k h = let e : p ≡ node_rows nodes = h refl in let z : node_rows nodes - p ≡ 0 = omega arith in rw z

-- the k-th call hands out the k-th address at or after the place, and past the last the end
calls_by_row : (nodes : List ℕ) (place k : ℕ) → kth_call (next_of nodes) place k ≡ kth_of (rest nodes place) k
unfolding kth_call
calls_by_row nodes place zero = told_first nodes (next_of nodes place).found (next_of nodes place).place ∙ ap (λ l. kth_of l 0) (sym (next-step nodes place).says)
calls_by_row nodes place (suc k) =
    calls_by_row nodes (next_of nodes place).place k ∙
    (told_later nodes (next_of nodes place).found (next_of nodes place).place k (λ e. ap (λ (s : Stepped). s.place) ((next-step nodes place).over e)) ∙
    ap (λ l. kth_of l (suc k)) (sym (next-step nodes place).says))

-- ---- lists of references

-- past the rows there is none, for good
batch_ended : (nodes : List ℕ) (room : ℕ) → batch_of nodes (node_rows nodes) room ≡ record { references = []; place = node_rows nodes }
unfolding batch_of next_of first
batch_ended nodes zero = refl
batch_ended nodes (suc room) = let z : node_rows nodes - node_rows nodes ≡ 0 = omega arith in rw z

told_batch : (nodes : List ℕ) (room : ℕ) (s : Option MemoryReference) (p : ℕ) → (batch_of nodes p room).references ≡ take room (rest nodes p)
    → (step_then s p (λ q. batch_of nodes q room)).references ≡ take (suc room) (told nodes s p)
told_batch nodes room (Some r) p e = ap (λ l. r ∷ l) e
told_batch nodes room None p e = refl

-- a list gets the addresses at or after the place, as many as it has room for
batch_by_row : (nodes : List ℕ) (place room : ℕ) → (batch_of nodes place room).references ≡ take room (rest nodes place)
unfolding batch_of
batch_by_row nodes place zero = refl
batch_by_row nodes place (suc room) =
    told_batch nodes room (next_of nodes place).found (next_of nodes place).place (batch_by_row nodes (next_of nodes place).place room) ∙
    ap (take (suc room)) (sym (next-step nodes place).says)

step_goes_on : (nodes : List ℕ) (a b : ℕ) (s : Option MemoryReference) (p : ℕ) → (s ≡ None → p ≡ node_rows nodes)
    → batch_of nodes p (a + b) ≡ going_on (batch_of nodes p a) (λ q. batch_of nodes q b)
    → step_then s p (λ q. batch_of nodes q (a + b)) ≡ going_on (step_then s p (λ q. batch_of nodes q a)) (λ q. batch_of nodes q b)
step_goes_on nodes a b (Some r) p h e = ap (λ (x : Batch). record { references = r ∷ x.references; place = x.place }) e
step_goes_on nodes a b None p h e = rw (h refl, batch_ended nodes b)

batch_goes_on : (nodes : List ℕ) (a place b : ℕ) → batch_of nodes place (a + b) ≡ going_on (batch_of nodes place a) (λ p. batch_of nodes p b)
unfolding batch_of
batch_goes_on nodes zero place b = let e : zero + b ≡ b = omega arith in rw e
batch_goes_on nodes (suc a) place b =
    let e : suc a + b ≡ suc (a + b) = omega arith in
    rw e
    (step_goes_on nodes a b (next_of nodes place).found (next_of nodes place).place (λ f. ap (λ (s : Stepped). s.place) ((next-step nodes place).over f))
    (batch_goes_on nodes a (next_of nodes place).place b))

word_in : (nodes : List ℕ) (i n w : ℕ) → w < n * 3 → get_or (nodes_in nodes i n) w 0 ≡ get_or nodes (i * 3 + w) 0
word_in nodes i n w h = rw (get_or-take, get_or-drop)

-- row k of the part is row i + k of the table
row_references_in : (nodes : List ℕ) (i n k m : ℕ) → k + m ≤ n → row_references (nodes_in nodes i n) k m ≡ row_references nodes (i + k) m
unfolding row_references
row_references_in nodes i n k zero h = refl
row_references_in nodes i n k (suc m) h =
    let a : k * 3 < n * 3 = omega arith in
    let b : k * 3 + 1 < n * 3 = omega arith in
    let c : k * 3 + 2 < n * 3 = omega arith in
    let d : i * 3 + k * 3 ≡ (i + k) * 3 = omega arith in
    let e : i * 3 + (k * 3 + 1) ≡ (i + k) * 3 + 1 = omega arith in
    let f : i * 3 + (k * 3 + 2) ≡ (i + k) * 3 + 2 = omega arith in
    let g : i + (k + 1) ≡ i + k + 1 = omega arith in
    rw (word_in nodes i n (k * 3) a, word_in nodes i n (k * 3 + 1) b, word_in nodes i n (k * 3 + 2) c, row_references_in nodes i n (k + 1) m (omega arith), d, e, f, g)

module _ (nodes : List ℕ) (i n : ℕ) (one : one_tree nodes i n ≡ true) where
  -- the part has as many rows as the tree
  rows_in : node_rows (nodes_in nodes i n) ≡ n
  rows_in =
      let h : i + n ≤ node_rows nodes = one_tree-inside nodes i n one in
      let e : length (nodes_in nodes i n) ≡ n * 3 = simp (length-take, length-drop) (omega arith) in
      omega arith

  rest_in : (place : ℕ) → place ≤ n → rest (nodes_in nodes i n) place ≡ row_references nodes (i + place) (n - place)
  rest_in place h = rw rows_in (row_references_in nodes i n place (n - place) (omega arith))

  all_in : rest (nodes_in nodes i n) 0 ≡ references nodes i n
  all_in =
      let d : n - 0 ≡ n = omega arith in
      let z : i + 0 ≡ i = omega arith in
      rest_in 0 (omega arith) ∙ rw (d, z) (sym (references_by_row nodes i n one))

  calls-references : (k : ℕ) → kth_call (next_in nodes i n) 0 k ≡ kth_of (references nodes i n) k
  unfolding next_in
  calls-references k = calls_by_row (nodes_in nodes i n) 0 k ∙ ap (λ l. kth_of l k) all_in

  -- a place past the tree is the end
  past_tree : (place : ℕ) → n ≤ place → next_in nodes i n place ≡ record { found = None; place = n }
  unfolding next_in next_of first
  past_tree place h = let z : node_rows (nodes_in nodes i n) - place ≡ 0 = omega (arith, rows_in) in rw (z, rows_in)

  module _ (place : ℕ) (s : Stepped) (e : s ≡ next_in nodes i n place) where
    step_in : Step (nodes_in nodes i n) (rest (nodes_in nodes i n) place) s
    unfolding next_in
    step_in = rw e (next-step (nodes_in nodes i n) place)

    -- an end for good: the call after it gives the same again
    end_for_good : s.found ≡ None → next_in nodes i n s.place ≡ s
    end_for_good f = rw (step_in.over f) (past_tree (node_rows (nodes_in nodes i n)) (omega (arith, rows_in)) ∙ rw rows_in)

  -- THE WALK of Walk.antt, of a range that is exactly one tree
  pub tree_walk : Walk nodes i n
  tree_walk =
      record {
        order = references_by_row nodes i n one;
        calls = calls-references;
        end = λ place f. end_for_good place (next_in nodes i n place) refl f;
      }

  batch_references : (room : ℕ) → (batch_in nodes i n 0 room).references ≡ take room (references nodes i n)
  unfolding batch_in
  batch_references room = batch_by_row (nodes_in nodes i n) 0 room ∙ ap (take room) all_in

  -- and by lists
  pub tree_batches : Batches nodes i n
  unfolding batch_in
  tree_batches =
      record {
        start = batch_references;
        all = λ room h. batch_references room ∙ take_all room (references nodes i n) h;
        go_on = λ place a b. batch_goes_on (nodes_in nodes i n) a place b;
      }
