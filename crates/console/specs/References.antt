-- 01, Order: "Walk (nodes alone; the rest take every table): 1, 2."
use Rattle.std.specs.Prelude.{ℕ, List, [], ◌∷◌, Option, Some, None, Ok, Err}
use Rattle.tables.specs.Refusal.{refusal_number}
use Rattle.tables.specs.Outcome.{Outcome}
use Rattle.memory.specs.declared.batch.Handed.{Handed}
use Rattle.memory.specs.declared.MemoryReference.{MemoryReference}
use Rattle.memory.specs.declared.Stepped.{Stepped}
use Rattle.loader.specs.Load.{load_nodes_look}
use Rattle.memory.specs.References.{next_in}
use Rattle.memory.specs.Batch.{Handing, hand_out_in}
use Rattle.console.specs.Answer.{after}

unfoldable pub references_table : List ℕ → ℕ → ℕ → ℕ → Outcome Stepped
references_table nodes first count place = after (load_nodes_look nodes first count) Err (Ok (next_in nodes first count place))

-- the answer's cases: 0 or the refusal's number
abbrev pub walk_number : Outcome Stepped → ℕ
walk_number (Err r) = refusal_number r
walk_number (Ok s) = 0

-- what was found: 1, name, index; or 0, 0, 0 at the end
abbrev pub found_words : Option MemoryReference → List ℕ
found_words (Some r) = 1 ∷ r.name ∷ r.index ∷ []
found_words None = 0 ∷ 0 ∷ 0 ∷ []

-- what a walk by lists gives: its answer, and the lent rows at exit
pub record Referencing : Type 0 where
  pub answer : Outcome Handed
  pub rows : List ℕ

abbrev pub referencing : Outcome Handed → List ℕ → Referencing
referencing answer rows = record { answer = answer; rows = rows }

abbrev pub handed_answer : Handing → Referencing
handed_answer h = referencing (Ok h.handed) h.rows

-- 1, 2 as in the walk; a refusal writes nothing
unfoldable pub references_list : List ℕ → ℕ → ℕ → ℕ → List ℕ → Referencing
references_list nodes first count place rows =
    after (load_nodes_look nodes first count) (λ r. referencing (Err r) rows)
    (handed_answer (hand_out_in nodes first count place rows))

-- the answer's cases: 0 or the refusal's number
abbrev pub references_number : Outcome Handed → ℕ
references_number (Err r) = refusal_number r
references_number (Ok h) = 0
