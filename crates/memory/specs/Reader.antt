-- The reader: "struct holding the node slice and a place; thin next over a covered function on slice and number".
use Rattle.std.specs.Prelude.{ℕ, List}
use Rattle.std.specs.Borrow.{Bor}
use Rattle.memory.specs.References.{next_of}
use Rattle.memory.specs.declared.MemoryReferences.{MemoryReferences}
use Rattle.memory.specs.declared.Stepped.{Stepped}

-- a reader over the lent nodes, at a place
abbrev pub reader_at : Bor (List ℕ) → ℕ → MemoryReferences
reader_at nodes place = record { nodes = nodes; place = place }

-- what its next call hands out, and the place that it then has
abbrev pub step_of : MemoryReferences → Stepped
step_of reader = next_of reader.nodes.now reader.place

-- the same nodes at that place
abbrev pub stepped : MemoryReferences → MemoryReferences
stepped reader = reader_at reader.nodes (step_of reader).place
