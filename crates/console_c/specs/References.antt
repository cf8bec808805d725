-- console_references: "On 0 rows holds count references, and place is the place to go on from." Otherwise none of the three is written.
use Rattle.tables.specs.Outcome.{Outcome}
use Rattle.memory.specs.declared.batch.Handed.{Handed}
use Rattle.std.specs.Prelude.{ℕ, List, get_or, set, Ok, Err}
use Rattle.console.specs.References.{Referencing, references_list, references_number}

-- the number returned, and the lent rows and the two out-arrays at exit
pub record ListedWords : Type 0 where
  pub number : ℕ
  pub place : List ℕ
  pub rows : List ℕ
  pub count : List ℕ

abbrev pub listed_words : ℕ → List ℕ → List ℕ → List ℕ → ListedWords
listed_words number place rows count = record { number = number; place = place; rows = rows; count = count }

-- "On 0 .. place is the place to go on from."
abbrev pub place_to_go_on : Outcome Handed → List ℕ → List ℕ
place_to_go_on (Err number) place = place
place_to_go_on (Ok h) place = set place 0 h.place

-- "On 0 rows holds count references"
abbrev pub count_after : Outcome Handed → List ℕ → List ℕ
count_after (Err number) count = count
count_after (Ok h) count = set count 0 h.count

abbrev pub listed_for : Referencing → List ℕ → List ℕ → ListedWords
listed_for r place count = listed_words (references_number r.answer) (place_to_go_on r.answer place) r.rows (count_after r.answer count)

unfoldable pub console_references : List ℕ → ℕ → ℕ → List ℕ → List ℕ → List ℕ → ListedWords
console_references nodes first node_count place rows count = listed_for (references_list nodes first node_count (get_or place 0 0) rows) place count
