-- How a label is found without comparing every two rows. Each label has a bucket; the LABEL rows of one bucket are a chain, from the last to the first:
-- `heads` has a bucket's last row, `links` a row's next one in its chain.
use Rattle.std.specs.Prelude.{ℕ, ◌%◌, ◌<◌, ◌≤◌, Bool, true, false, ◌&&◌, List, ◌≡◌, eqb, ltb, get_or, length}
use Rattle.tables.specs.Rows.{instruction_limit, instruction_rows, instruction_at}
use Rattle.labels.specs.Labels.{is_label, label_at, has_label, labels_distinct}

-- how many buckets there are
abbrev pub bucket_count : ℕ
bucket_count = 1021

unfoldable pub bucket_of : ℕ → ℕ
bucket_of label = label % bucket_count

-- whether a word that was read for a row is one of the first n rows and in that bucket's chain. Any other word ends the chain, so that it does not matter what the room holds at first.
unfoldable pub chained : List ℕ → ℕ → ℕ → ℕ → Bool
chained instructions n bucket k = ltb k n && (is_label (instruction_at instructions k) && eqb (bucket_of (label_at instructions k)) bucket)

-- of the first n rows, those after the word k, or all where it ends the chain, have not that label
pub record Passed (instructions : List ℕ) (label n k : ℕ) : Type 0 where
  pub row : (j : ℕ) → j < n → (chained instructions n (bucket_of label) k ≡ true → k < j) → has_label instructions label j ≡ false

-- the chains of the first n rows
pub record Chains (instructions heads links : List ℕ) (n : ℕ) : Type 0 where
  pub buckets : length heads ≡ bucket_count
  pub rows : length links ≡ instruction_limit
  pub head : (label : ℕ) → Passed instructions label n (get_or heads (bucket_of label) 0)
  pub link : (label k : ℕ) → chained instructions n (bucket_of label) k ≡ true → Passed instructions label k (get_or links k 0)

-- those of a program without a label on two rows
pub record ChainedAll (instructions heads links : List ℕ) : Type 0 where
  pub few : instruction_rows instructions ≤ instruction_limit
  pub distinct : labels_distinct instructions ≡ true
  pub chains : Chains instructions heads links (instruction_rows instructions)
