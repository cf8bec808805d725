-- "A cell is kind, word." Memory is a flat list of words: cell c's kind is word 2c, its word is word 2c + 1.
use Rattle.std.specs.Prelude.{List, [], ◌∷◌, ℕ, ◌+◌, ◌*◌, get_or, set}
use Rattle.journal.specs.declared.cells.Write.{Write}

-- words in a cell
abbrev pub cell_width : ℕ
cell_width = 2

-- what a cell holds, as the write that would restore it
abbrev pub held : List ℕ → ℕ → Write
held memory c = record { cell = c; kind = get_or memory (cell_width * c) 0; word = get_or memory (cell_width * c + 1) 0 }

-- one write
unfoldable pub put : List ℕ → Write → List ℕ
put memory w = set (set memory (cell_width * w.cell) w.kind) (cell_width * w.cell + 1) w.word

-- a step's writes, "applied in order"
unfoldable pub applied : List ℕ → List Write → List ℕ
applied memory [] = memory
applied memory (w ∷ ws) = applied (put memory w) ws
