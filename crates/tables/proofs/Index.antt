-- The place of a row's first word, for a table of any width. Assumes nothing.
use Rattle.std.proofs.Common.{ℕ, ◌*◌, ◌<◌, ◌≤◌, lt_of_lt_of_le, mul-lt-mul_of_pos_right}

module _ {i rows width n : ℕ} where
  -- row i starts before the end of the rows
  pub row-start : 0 < width → rows * width ≤ n → i < rows → i * width < n
  row-start w fit h = lt_of_lt_of_le (mul-lt-mul_of_pos_right h w) fit
