-- console_reference: "place is how many of its nodes were passed, 0 at first. On 0 place is the new place, and found is 1, name, index; or at the end, for good, place is node_count, and found is 0, 0, 0".
use Rattle.tables.specs.Outcome.{Outcome}
use Rattle.memory.specs.declared.Stepped.{Stepped}
use Rattle.std.specs.Prelude.{ℕ, List, get_or, set, Ok, Err}
use Rattle.std.proofs.lemmas.List.Edits.{sets}
use Rattle.console.specs.References.{references_table, walk_number, found_words}

-- the number returned, and the two out-arrays at exit
pub record ReferredWords : Type 0 where
  pub number : ℕ
  pub place : List ℕ
  pub found : List ℕ

abbrev pub referred_words : ℕ → List ℕ → List ℕ → ReferredWords
referred_words number place found = record { number = number; place = place; found = found }

-- "On 0 place is the new place"
abbrev pub place_after : Outcome Stepped → List ℕ → List ℕ
place_after (Err number) place = place
place_after (Ok step) place = set place 0 step.place

abbrev pub found_after : Outcome Stepped → List ℕ → List ℕ
found_after (Err number) found = found
found_after (Ok step) found = sets found 0 (found_words step.found)

abbrev pub referred_for : Outcome Stepped → List ℕ → List ℕ → ReferredWords
referred_for answer place found = referred_words (walk_number answer) (place_after answer place) (found_after answer found)

unfoldable pub console_reference : List ℕ → ℕ → ℕ → List ℕ → List ℕ → ReferredWords
console_reference nodes first count place found = referred_for (references_table nodes first count (get_or place 0 0)) place found
