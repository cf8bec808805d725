-- Laws of chains: how they grow row by row, and what a walk along one says of the rows. Assumes nothing.
use Rattle.std.proofs.Common.{Bool, ℕ, ◌+◌, ◌<◌, ◌≤◌, true, false, List, ◌≡◌, refl, sym, ap, subst, ◌∙◌, arith, ltb-true, lt-ltb, le-ltb, eqb-true, eq-eqb, ne_eqb, ltb, get_or, set, length, length-set, get_or-set_same, get_or-set_other}
use native.Mathlib.Decide.{ℕ_discrete}
use Rattle.tables.specs.Rows.{instruction_limit, instruction_at}
use Rattle.tables.proofs.FirstLaws.{never}
use Rattle.tables.proofs.Passed.{both, and_false}
use Rattle.labels.specs.Labels.{is_label, label_at, has_label, labelled}
use Rattle.labels.specs.Chains.{bucket_count, bucket_of, chained, Passed, Chains}
use Rattle.labels.proofs.LabelsLaws.{labelled_hit, labelled-none, labelled_cut}

pub bucket_below : (label : ℕ) → bucket_of label < bucket_count
unfolding bucket_of
bucket_below label = omega arith

-- ---- one word

-- what a chained word is
pub record ChainedRow (instructions : List ℕ) (n bucket k : ℕ) : Type 0 where
  pub below : k < n
  pub is_one : is_label (instruction_at instructions k) ≡ true
  pub here : bucket_of (label_at instructions k) ≡ bucket

module _ {instructions : List ℕ} {n bucket k : ℕ} where
  pub chained-row : chained instructions n bucket k ≡ true → ChainedRow instructions n bucket k
  unfolding chained
  chained-row e =
      let (a, r) = both (ltb k n) _ e in
      let (b, c) = both (is_label (instruction_at instructions k)) _ r in
      record { below = ltb-true k n a; is_one = b; here = eqb-true _ _ c }

  row_chained : ChainedRow instructions n bucket k → chained instructions n bucket k ≡ true
  unfolding chained
  row_chained r = rw (lt-ltb k n r.below, r.is_one) (eq-eqb _ _ r.here)

  -- it is so among any number of rows that has it
  still_chained : {m : ℕ} → ChainedRow instructions m bucket k → k < n → chained instructions n bucket k ≡ true
  still_chained r h = row_chained (record { below = h; is_one = r.is_one; here = r.here })

-- a word that was tested is among the rows
pub chained-below : {r : Bool} (instructions : List ℕ) (n bucket k : ℕ) → r ≡ chained instructions n bucket k → r ≡ true → k < n
chained-below instructions n bucket k e t = (chained-row (sym e ∙ t)).below

module _ (instructions : List ℕ) (label n : ℕ) where
  -- a row more that has not the label
  passed_more : (k : ℕ) → has_label instructions label n ≡ false → Passed instructions label n k → Passed instructions label (n + 1) k
  passed_more k e p = record { row = λ j h after. at j h after (ℕ_discrete j n) }
    where
      at : (j : ℕ) → j < n + 1 → (chained instructions (n + 1) (bucket_of label) k ≡ true → k < j) → Dec (j ≡ n) → has_label instructions label j ≡ false
      at j h after (yes q) = subst (λ i. has_label instructions label i ≡ false) (sym q) e
      at j h after (no ne) = p.row j (omega arith) (λ c. let r = chained-row c in after (still_chained r (let l = r.below in omega (arith, l))))

  -- after the last row there is none
  passed_last : ChainedRow instructions (n + 1) (bucket_of label) n → Passed instructions label (n + 1) n
  passed_last r = record { row = λ j h after. let l : n < j = after (row_chained r) in absurd (omega arith) }

  -- a row of another bucket has another label
  other_bucket : (bucket_of label ≡ bucket_of (label_at instructions n) → ⊥) → has_label instructions label n ≡ false
  other_bucket ne = rw (ne_eqb (label_at instructions n) label (λ e. ne (ap bucket_of (sym e)))) (and_false (is_label (instruction_at instructions n)))

-- ---- the chains of more rows

module _ (instructions heads links : List ℕ) where
  -- of no rows, whatever the lists hold
  pub chains-start : length heads ≡ bucket_count → length links ≡ instruction_limit → Chains instructions heads links 0
  chains-start p q = record { buckets = p; rows = q; head = λ label. record { row = λ j h after. absurd (omega arith) }; link = λ label k c. let l = (chained-row c).below in absurd (omega arith) }

  module _ (n : ℕ) (s : Chains instructions heads links n) where
    -- the words before the last keep what follows them
    link_before : (label k : ℕ) → ChainedRow instructions (n + 1) (bucket_of label) k → (k ≡ n → ⊥) → Passed instructions label k (get_or links k 0)
    link_before label k r ne = s.link label k (still_chained r (let l = r.below in omega (arith, l, ne)))

    -- a row that is no LABEL
    pub chains_skip : is_label (instruction_at instructions n) ≡ false → Chains instructions heads links (n + 1)
    chains_skip e =
        record {
          buckets = s.buckets;
          rows = s.rows;
          head = λ label. passed_more instructions label n _ (rw e) (s.head label);
          link = λ label k c. let r = chained-row c in link_before label k r (λ q. never (sym e ∙ (ap (λ i. is_label (instruction_at instructions i)) (sym q) ∙ r.is_one)));
        }

    -- a LABEL row, put in front of its bucket's chain
    pub chains-add : n < instruction_limit → is_label (instruction_at instructions n) ≡ true
        → Chains instructions (set heads (bucket_of (label_at instructions n)) n) (set links n (get_or heads (bucket_of (label_at instructions n)) 0)) (n + 1)
    chains-add h e =
        record {
          buckets = length-set heads bucket n ∙ s.buckets;
          rows = length-set links n old ∙ s.rows;
          head = λ label. head label (ℕ_discrete (bucket_of label) bucket);
          link = λ label k c. link label k (chained-row c) (ℕ_discrete k n);
        }
      where
        bucket : ℕ
        bucket = bucket_of (label_at instructions n)

        old : ℕ
        old = get_or heads bucket 0

        head : (label : ℕ) → Dec (bucket_of label ≡ bucket) → Passed instructions label (n + 1) (get_or (set heads bucket n) (bucket_of label) 0)
        head label (yes q) =
            rw (q, get_or-set_same heads bucket n 0 (let b = bucket_below (label_at instructions n) in let l = s.buckets in omega (arith, b, l)))
            (passed_last instructions label n (record { below = omega arith; is_one = e; here = sym q }))
        head label (no ne) = rw (get_or-set_other heads bucket (bucket_of label) n 0 ne) (passed_more instructions label n _ (other_bucket instructions label n ne) (s.head label))

        link : (label k : ℕ) → ChainedRow instructions (n + 1) (bucket_of label) k → Dec (k ≡ n) → Passed instructions label k (get_or (set links n old) k 0)
        link label k r (yes q) =
            let p : bucket_of label ≡ bucket = sym r.here ∙ ap (λ i. bucket_of (label_at instructions i)) q in
            rw (q, get_or-set_same links n old 0 (let l = s.rows in omega (arith, l)), ← p) (s.head label)
        link label k r (no ne) = rw (get_or-set_other links n k old 0 ne) (link_before label k r ne)

-- ---- a walk along the label's chain

-- the rows from `before` on are passed, and `k` is the word that was read then
pub record Walk (instructions : List ℕ) (label n before k : ℕ) : Type 0 where
  pub within : before ≤ n
  pub passed : Passed instructions label before k
  pub same : labelled instructions label before ≡ labelled instructions label n

module _ (instructions heads links : List ℕ) (n : ℕ) (s : Chains instructions heads links n) (label bucket : ℕ) (here : bucket ≡ bucket_of label) where
  pub walk_start : Walk instructions label n n (get_or heads bucket 0)
  walk_start = record { within = omega arith; passed = subst (λ i. Passed instructions label n (get_or heads i 0)) (sym here) (s.head label); same = refl }

  module _ (before k : ℕ) (w : Walk instructions label n before k) where
    -- the label's row is met
    pub walk_met : chained instructions before bucket k ≡ true → has_label instructions label k ≡ true → ltb k n ≡ labelled instructions label n
    walk_met c e = let h : k < n = omega (arith, (chained-row c).below, w.within) in lt-ltb k n h ∙ sym (labelled_hit instructions label n k h e)

    -- another label's is passed
    pub walk_next : chained instructions before bucket k ≡ true → has_label instructions label k ≡ false → Walk instructions label n k (get_or links k 0)
    walk_next c e =
        let r : ChainedRow instructions before bucket k = chained-row c in
        let b : k < n = omega (arith, r.below, w.within) in
        record {
          within = omega arith;
          passed = s.link label k (ap (λ i. chained instructions n i k) (sym here) ∙ still_chained r b);
          same = labelled_cut instructions label k before (omega (arith, r.below)) (λ j m h. at j m h (ℕ_discrete j k)) ∙ w.same;
        }
      where
        at : (j : ℕ) → k ≤ j → j < before → Dec (j ≡ k) → has_label instructions label j ≡ false
        at j m h (yes q) = subst (λ i. has_label instructions label i ≡ false) (sym q) e
        at j m h (no ne) = w.passed.row j h (λ t. omega (arith, m, ne))

    -- the chain ends
    pub walk_ends : chained instructions before bucket k ≡ false → ltb n n ≡ labelled instructions label n
    walk_ends c = le-ltb n n (omega arith) ∙ sym (labelled-none instructions label before (λ j h. w.passed.row j h (λ t. never (sym c ∙ (ap (λ i. chained instructions before i k) here ∙ t))))) ∙ w.same
