-- What is claimed of a walk. 01, "Reference walk": "hands out the next reference, left to right, repeats kept, then an end for good". Proved of every range that is exactly one tree: `tree_walk` and `tree_batches` in proofs/WalkLaws.antt.
use Rattle.std.specs.Prelude.{ℕ, zero, suc, ◌+◌, ◌≤◌, List, [], ◌∷◌, ◌++◌, ◌≡◌, length, take, Option, Some, None}
use Rattle.memory.specs.References.{references, row_references, next_in}
use Rattle.memory.specs.Batch.{Batch, batch_in}
use Rattle.memory.specs.declared.MemoryReference.{MemoryReference}
use Rattle.memory.specs.declared.Stepped.{Stepped}

-- what the k-th call hands out, from 0, where each call goes on from the place that the one before it gave
unfoldable pub kth_call : (ℕ → Stepped) → ℕ → ℕ → Option MemoryReference
kth_call next place zero = (next place).found
kth_call next place (suc k) = kth_call next (next place).place k

-- the k-th reference of a list, from 0, and past the last the end
unfoldable pub kth_of : List MemoryReference → ℕ → Option MemoryReference
kth_of [] k = None
kth_of (r ∷ rs) zero = Some r
kth_of (r ∷ rs) (suc k) = kth_of rs k

-- of the n rows from row i on
pub record Walk (nodes : List ℕ) (i n : ℕ) : Type 0 where
  -- "left to right" is the order of the rows: "A parent precedes its children, left first"
  pub order : references nodes i n ≡ row_references nodes i n
  -- the k-th call from place 0 hands out the tree's k-th reference, and past the last the end
  pub calls : (k : ℕ) → kth_call (next_in nodes i n) 0 k ≡ kth_of (references nodes i n) k
  -- "an end for good": from wherever the end was told, the next call tells it again and stays
  pub end : (place : ℕ) → (next_in nodes i n place).found ≡ None → next_in nodes i n (next_in nodes i n place).place ≡ next_in nodes i n place

-- a batch, and the one that goes on from its place
abbrev pub going_on : Batch → (ℕ → Batch) → Batch
going_on batch next =
    record { references = batch.references ++ (next batch.place).references; place = (next batch.place).place }

-- of the n rows from row i on, handed out by lists
pub record Batches (nodes : List ℕ) (i n : ℕ) : Type 0 where
  -- from place 0 a list gets the tree's first references, as many as it has room for: none is skipped, repeated or left out
  pub start : (room : ℕ) → (batch_in nodes i n 0 room).references ≡ take room (references nodes i n)
  pub all : (room : ℕ) → length (references nodes i n) ≤ room → (batch_in nodes i n 0 room).references ≡ references nodes i n
  -- the place to go on from: two lists, one after the other, get what one list with the room of both gets
  pub go_on : (place a b : ℕ) → batch_in nodes i n place (a + b) ≡ going_on (batch_in nodes i n place a) (λ p. batch_in nodes i n p b)
