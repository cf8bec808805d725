-- The walk by lists: the next references of an expression go into a lent list, as many as fit, with the place to go on from.
use Rattle.std.specs.Prelude.{ℕ, zero, suc, ◌/◌, List, [], ◌∷◌, length, Option, Some, None}
use Rattle.std.proofs.lemmas.List.Edits.{sets}
use Rattle.memory.specs.References.{next_of, nodes_in}
use Rattle.memory.specs.declared.MemoryReference.{MemoryReference}
use Rattle.memory.specs.declared.batch.Handed.{Handed}

-- the references that were handed out, and the place to go on from
pub record Batch : Type 0 where
  pub references : List MemoryReference
  pub place : ℕ

-- a step, and what its place leads to: a reference comes before those, and at the end there are none
abbrev pub step_then : Option MemoryReference → ℕ → (ℕ → Batch) → Batch
step_then (Some r) place rest = record { references = r ∷ (rest place).references; place = (rest place).place }
step_then None place rest = record { references = []; place = place }

-- as many steps of the walk as there is room for, up to the first end
unfoldable pub batch_of : List ℕ → ℕ → ℕ → Batch
batch_of nodes place zero = record { references = []; place = place }
batch_of nodes place (suc room) = step_then (next_of nodes place).found (next_of nodes place).place (λ p. batch_of nodes p room)

-- the same in a range that is "exactly one tree": the place counts the tree's nodes that were passed, 0 at first
unfoldable pub batch_in : List ℕ → ℕ → ℕ → ℕ → ℕ → Batch
batch_in nodes i n place room = batch_of (nodes_in nodes i n) place room

-- a row is name and index, two words
abbrev pub reference_width : ℕ
reference_width = 2

abbrev pub reference_words : MemoryReference → List ℕ
reference_words r = r.name ∷ r.index ∷ []

-- the rows of the references, in order
unfoldable pub rows_words : List MemoryReference → List ℕ
rows_words [] = []
rows_words (r ∷ rs) = r.name ∷ r.index ∷ rows_words rs

-- how many rows a list has room for; a list of no room gets none
abbrev pub room_of : List ℕ → ℕ
room_of rows = length rows / reference_width

-- what a call gives: the count and the place, and the lent rows at exit
pub record Handing : Type 0 where
  pub handed : Handed
  pub rows : List ℕ

abbrev pub handing : Handed → List ℕ → Handing
handing handed rows = record { handed = handed; rows = rows }

-- the batch's rows stand from word 0 on, and the other words stay
abbrev pub with_batch : Batch → List ℕ → Handing
with_batch batch rows =
    handing (record { count = length batch.references; place = batch.place }) (sets rows 0 (rows_words batch.references))

unfoldable pub hand_out : List ℕ → ℕ → List ℕ → Handing
hand_out nodes place rows = with_batch (batch_of nodes place (room_of rows)) rows

unfoldable pub hand_out_in : List ℕ → ℕ → ℕ → ℕ → List ℕ → Handing
hand_out_in nodes i n place rows = with_batch (batch_in nodes i n place (room_of rows)) rows
