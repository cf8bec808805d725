-- Laws of labels: what a search for a label's row says of the rows, and where a label's row is. Assumes nothing.
use Rattle.std.proofs.Common.{ℕ, zero, suc, ◌+◌, ◌-◌, ◌<◌, ◌≤◌, Bool, true, false, not, cond, ◌&&◌, ◌||◌, List, ◌≡◌, refl, sym, ap, ◌∙◌, arith, eqb, eqb-true}
use native.Mathlib.Decide.{ℕ_discrete}
use Rattle.tables.specs.First.{first, every}
use Rattle.tables.specs.Rows.{instruction_rows, instruction_at}
use Rattle.tables.specs.declared.rows.Instruction.{Instruction}
use Rattle.tables.proofs.FirstLaws.{never, first-none, every-row, every-all}
use Rattle.tables.proofs.Passed.{both}
use Rattle.labels.specs.Labels.{is_label, is_jump, label_at, has_label, label_row, labelled, new_label, has_target, labels_distinct, targets_present, unlabelled, labels_fit}

-- ---- a search by any test

-- whether `test` holds of one of the n rows from row i on
abbrev some_from : (ℕ → Bool) → ℕ → ℕ → Bool
some_from test i n = first test (λ k. true) false i n

module _ {A : Type 0} (test : ℕ → Bool) (value : ℕ → A) (other : A) where
  -- the last d rows do not pass
  first_cut : (d n i : ℕ) → ((k : ℕ) → i + n ≤ k → k < i + n + d → test k ≡ false) → first test value other i (n + d) ≡ first test value other i n
  unfolding first
  first_cut d zero i none = let e : 0 + d ≡ d = omega arith in rw e (first-none test value other d i (λ k l h. none k (omega arith) (omega arith)))
  first_cut d (suc n) i none =
      let e : suc n + d ≡ suc (n + d) = omega arith in
      rw e (ap (cond (test i) (value i)) (first_cut d n (i + 1) (λ k l h. none k (omega arith) (omega arith))))

module _ (test : ℕ → Bool) where
  -- some row passes
  some_row : (n i k : ℕ) → i ≤ k → k < i + n → test k ≡ true → some_from test i n ≡ true
  unfolding first
  some_row zero i k l h e = absurd (omega arith)
  some_row (suc n) i k l h e = at (test i) refl (ℕ_discrete k i) (λ l h. some_row n (i + 1) k l h e)
    where
      at : (t : Bool) → test i ≡ t → Dec (k ≡ i) → (i + 1 ≤ k → k < i + 1 + n → some_from test (i + 1) n ≡ true) → cond t true (some_from test (i + 1) n) ≡ true
      at true q d ih = refl
      at false q (yes s) ih = never (sym q ∙ (ap test (sym s) ∙ e))
      at false q (no ne) ih = ih (omega arith) (omega arith)

  -- a row that passes, before the end
  record Met (end k : ℕ) : Type 0 where
    pub below : k < end
    pub passes : test k ≡ true

  -- where some row passes, the first that does is there
  first_met : (other n i : ℕ) → some_from test i n ≡ true → Met (i + n) (first test (λ k. k) other i n)
  unfolding first
  first_met other zero i e = never e
  first_met other (suc n) i e = at (test i) refl e (first_met other n (i + 1))
    where
      rest : ℕ
      rest = first test (λ k. k) other (i + 1) n

      at : (t : Bool) → test i ≡ t → cond t true (some_from test (i + 1) n) ≡ true → (some_from test (i + 1) n ≡ true → Met (i + 1 + n) rest) → Met (i + suc n) (cond t i rest)
      at true q z ih = record { below = omega arith; passes = q }
      at false q z ih = let m = ih z in record { below = let l = m.below in omega (arith, l); passes = m.passes }

  -- and it is never past the end
  first-within : (other n i : ℕ) → i + n ≤ other → first test (λ k. k) other i n ≤ other
  unfolding first
  first-within other zero i h = omega arith
  first-within other (suc n) i h = at (test i) (first-within other n (i + 1) (omega arith))
    where
      at : (t : Bool) → first test (λ k. k) other (i + 1) n ≤ other → cond t i (first test (λ k. k) other (i + 1) n) ≤ other
      at true l = omega arith
      at false l = l

-- ---- whether a label has a row among the first ones

module _ (instructions : List ℕ) (label : ℕ) where
  pub labelled_hit : (n k : ℕ) → k < n → has_label instructions label k ≡ true → labelled instructions label n ≡ true
  unfolding labelled
  labelled_hit n k h e = some_row (has_label instructions label) n 0 k (omega arith) (omega arith) e

  pub labelled-none : (n : ℕ) → ((k : ℕ) → k < n → has_label instructions label k ≡ false) → labelled instructions label n ≡ false
  unfolding labelled
  labelled-none n none = first-none (has_label instructions label) (λ k. true) false n 0 (λ k l h. none k (omega arith))

  -- rows from m on that have not the label can be left out
  pub labelled_cut : (m n : ℕ) → m ≤ n → ((k : ℕ) → m ≤ k → k < n → has_label instructions label k ≡ false) → labelled instructions label m ≡ labelled instructions label n
  unfolding labelled
  labelled_cut m n l none =
      let has = has_label instructions label in
      let e : m + (n - m) ≡ n = omega arith in
      let cut : some_from has 0 (m + (n - m)) ≡ some_from has 0 m = first_cut has (λ k. true) false (n - m) m 0 (λ k a b. none k (omega arith) (omega arith)) in
      sym cut ∙ ap (some_from has 0) e

-- ---- where a label's row is

pub label_row-within : (instructions : List ℕ) (label : ℕ) → label_row instructions label ≤ instruction_rows instructions
unfolding label_row
label_row-within instructions label = let rows = instruction_rows instructions in first-within (has_label instructions label) rows rows 0 (omega arith)

module _ (instructions : List ℕ) (distinct : labels_distinct instructions ≡ true) where
  -- a label that is on a row is on no later one
  once : (label j k : ℕ) → j < k → k < instruction_rows instructions → has_label instructions label j ≡ true → has_label instructions label k ≡ true → ⊥
  unfolding labels_distinct
  once label j k l h a b =
      let (one, same) = both (is_label (instruction_at instructions k)) (eqb (label_at instructions k) label) b in
      let e : label_at instructions k ≡ label = eqb-true _ _ same in
      let hit : labelled instructions (label_at instructions k) k ≡ true = rw e (labelled_hit instructions label k j l a) in
      let twice : new_label instructions k ≡ false = rw (one, hit) in
      never (sym twice ∙ every-row (new_label instructions) (instruction_rows instructions) distinct k h)

  -- so a row that has it is its row
  pub label_row_is : (label k : ℕ) → k < instruction_rows instructions → has_label instructions label k ≡ true → k ≡ label_row instructions label
  unfolding label_row labelled
  label_row_is label k h e =
      let has = has_label instructions label in
      let m = first_met has (instruction_rows instructions) (instruction_rows instructions) 0 (some_row has (instruction_rows instructions) 0 k (omega arith) (omega arith) e) in
      let below : first has (λ i. i) (instruction_rows instructions) 0 (instruction_rows instructions) < instruction_rows instructions = let l = m.below in omega (arith, l) in
      at (first has (λ i. i) (instruction_rows instructions) 0 (instruction_rows instructions)) below m.passes
    where
      at : (j : ℕ) → j < instruction_rows instructions → has_label instructions label j ≡ true → k ≡ j
      at j l p =
          let not_later : j < k → ⊥ = (λ a. once label j k a h p e) in
          let not_earlier : k < j → ⊥ = (λ a. once label k j a l e p) in
          omega (arith, not_later, not_earlier)

module _ (instructions : List ℕ) (fit : labels_fit instructions ≡ true) (k : ℕ) (h : k < instruction_rows instructions) (jump : is_jump (instruction_at instructions k) ≡ true) where
  target : Met (has_label instructions (label_at instructions k)) (instruction_rows instructions) (label_row instructions (label_at instructions k))
  unfolding label_row labelled labels_fit targets_present
  target =
      let rows = instruction_rows instructions in
      let present : every (has_target instructions) rows ≡ true = (both (labels_distinct instructions) (targets_present instructions) fit).1 in
      let there : labelled instructions (label_at instructions k) rows ≡ true = rw jump at (every-row (has_target instructions) rows present k h) in
      let m = first_met (has_label instructions (label_at instructions k)) rows rows 0 there in
      record { below = let l = m.below in omega (arith, l); passes = m.passes }

  -- a jump's label has its row
  pub target-there : label_row instructions (label_at instructions k) < instruction_rows instructions
  target-there = target.below

  -- which is the LABEL of it
  pub target-labelled : has_label instructions (label_at instructions k) (label_row instructions (label_at instructions k)) ≡ true
  target-labelled = target.passes

-- ---- a program without labels and jumps

neither : (a b : Bool) → not (a || b) ≡ true → (a ≡ false) × (b ≡ false)
neither true b e = never e
neither false true e = never e
neither false false e = (refl, refl)

pub no_jump : (instructions : List ℕ) → unlabelled instructions ≡ true → (k : ℕ) → k < instruction_rows instructions → is_jump (instruction_at instructions k) ≡ false
unfolding unlabelled
no_jump instructions e k h =
    let row : ℕ → Instruction = instruction_at instructions in
    (neither (is_label (row k)) (is_jump (row k)) (every-row (λ k. not (is_label (row k) || is_jump (row k))) (instruction_rows instructions) e k h)).1

pub unlabelled-fits : (instructions : List ℕ) → unlabelled instructions ≡ true → true ≡ labels_fit instructions
unfolding unlabelled labels_fit labels_distinct targets_present
unlabelled-fits instructions e =
    let rows : ℕ = instruction_rows instructions in
    let row : ℕ → Instruction = instruction_at instructions in
    let each : (k : ℕ) → k < rows → (is_label (row k) ≡ false) × (is_jump (row k) ≡ false) = (λ k h. neither (is_label (row k)) (is_jump (row k)) (every-row (λ k. not (is_label (row k) || is_jump (row k))) rows e k h)) in
    let new : every (new_label instructions) rows ≡ true = every-all (new_label instructions) rows (λ k h. ap (λ (t : Bool). not (t && labelled instructions (label_at instructions k) k)) (each k h).0) in
    let aimed : every (has_target instructions) rows ≡ true = every-all (has_target instructions) rows (λ k h. ap (λ (t : Bool). not t || labelled instructions (label_at instructions k) rows) (each k h).1) in
    rw (new, aimed)
