-- "Back restores in reverse."
use Rattle.std.specs.Prelude.{Bool, true, ◌&&◌, List, [], ◌∷◌, ℕ, ltb}
use Rattle.journal.specs.declared.cells.Write.{Write}
use Rattle.journal.specs.Cells.{put}
use Rattle.journal.specs.Entries.{entries_at}

-- old values put back from the last to the first
unfoldable pub restored : List ℕ → List Write → List ℕ
restored memory [] = memory
restored memory (w ∷ ws) = put (restored memory ws) w

-- the n entries from `base` on, taken back
unfoldable pub undone : List ℕ → ℕ → ℕ → List ℕ → List ℕ
undone journal base n memory = restored memory (entries_at journal base n)

-- whether each entry's cell is one of the first `cells`: where not, "19 .. journal (.. cell absent)"
unfoldable pub present : ℕ → List Write → Bool
present cells [] = true
present cells (w ∷ ws) = ltb w.cell cells && present cells ws
