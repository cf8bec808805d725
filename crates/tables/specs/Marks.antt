-- How a repeated name is found without comparing every two rows: each name has a mark, and two rows of one name have one mark.
use Rattle.std.specs.Prelude.{ℕ, ◌%◌, ◌<◌, Bool, true, false, List, ◌≡◌, get_or, length}
use Rattle.tables.specs.Lookup.{name_at}

-- how many marks there are
abbrev pub mark_count : ℕ
mark_count = 251

unfoldable pub mark_of : ℕ → ℕ
mark_of name = name % mark_count

-- the marks of the first n rows' names are set
pub record Marked (width : ℕ) (xs : List ℕ) (marks : List Bool) (n : ℕ) : Type 0 where
  pub count : length marks ≡ mark_count
  pub set : (k : ℕ) → k < n → get_or marks (mark_of (name_at width xs k)) false ≡ true
