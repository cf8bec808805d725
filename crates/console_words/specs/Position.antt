-- A position's three words: row, steps not taken back, entries used.
use Rattle.std.specs.Prelude.{ℕ, List, [], ◌∷◌, get_or}
use Rattle.journal.specs.declared.position.Position.{Position}

abbrev pub position_in : List ℕ → Position
position_in position = record { row = get_or position 0 0; done = get_or position 1 0; used = get_or position 2 0 }

abbrev pub position_words : Position → List ℕ
position_words p = p.row ∷ p.done ∷ p.used ∷ []
