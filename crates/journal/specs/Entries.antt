-- "The journal, at most 2,048 entries of three words, gets cell, old kind, old word per write (exchange 2 in either order, call one per reply row), then" a closing entry.
use Rattle.std.specs.Prelude.{List, [], ◌∷◌, ◌++◌, ℕ, zero, suc, ◌+◌, ◌*◌, length, get_or}
use Rattle.std.proofs.lemmas.List.Edits.{sets}
use Rattle.journal.specs.declared.cells.Write.{Write}
use Rattle.journal.specs.Cells.{put, held}

-- words in an entry
abbrev pub entry_width : ℕ
entry_width = 3

-- the most entries of a journal
abbrev pub entry_limit : ℕ
entry_limit = 2048

-- an entry's three words
abbrev pub words_of : Write → List ℕ
words_of w = w.cell ∷ w.kind ∷ w.word ∷ []

-- entries, one after the other
unfoldable pub flatten : List Write → List ℕ
flatten [] = []
flatten (w ∷ ws) = words_of w ++ flatten ws

-- for each write, in order, its cell with the kind and the word found there at that moment
unfoldable pub olds : List ℕ → List Write → List Write
olds memory [] = []
olds memory (w ∷ ws) = held memory w.cell ∷ olds (put memory w) ws

-- "cell, old kind, old word per write"
unfoldable pub log : List ℕ → List Write → List ℕ
log memory ws = flatten (olds memory ws)

-- "then change count, 0, 0"; 02, P4: "A closing entry's second word is the row left"
unfoldable pub closing : ℕ → ℕ → List ℕ
closing changes row = changes ∷ row ∷ 0 ∷ []

-- words stored from an entry on; all other words stay
unfoldable pub entered : List ℕ → ℕ → List ℕ → List ℕ
entered journal entry words = sets journal (entry_width * entry) words

-- the journal after a step of a row that made the writes on memory, with `used` entries in use before it
unfoldable pub journaled : List ℕ → ℕ → ℕ → List ℕ → List Write → List ℕ
journaled journal used row memory ws = entered journal used (log memory ws ++ closing (length ws) row)

-- the change count of the closing entry there
abbrev pub changes_at : List ℕ → ℕ → ℕ
changes_at journal entry = get_or journal (entry_width * entry) 0

-- the row left, of the closing entry there
abbrev pub row_left_at : List ℕ → ℕ → ℕ
row_left_at journal entry = get_or journal (entry_width * entry + 1) 0

-- the entry of a write there
abbrev pub entry_at : List ℕ → ℕ → Write
entry_at journal entry = record { cell = get_or journal (entry_width * entry) 0; kind = get_or journal (entry_width * entry + 1) 0; word = get_or journal (entry_width * entry + 2) 0 }

-- the n entries from `base` on
unfoldable pub entries_at : List ℕ → ℕ → ℕ → List Write
entries_at journal base zero = []
entries_at journal base (suc n) = entry_at journal base ∷ entries_at journal (base + 1) n
