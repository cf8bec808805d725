-- What a call leaves: its answer, memory, and the journal's words (J is Unit where it writes none).
use Rattle.std.specs.Prelude.{ℕ, List, ◌++◌, take, drop}

pub record Leaves (A J : Type 0) : Type 0 where
  pub answer : A
  pub memory : List ℕ
  pub journal : J

abbrev pub leaves : {A J : Type 0} → A → List ℕ → J → Leaves A J
leaves answer memory journal = record { answer = answer; memory = memory; journal = journal }

-- with further words behind memory
abbrev pub extended : {A J : Type 0} → Leaves A J → List ℕ → Leaves A J
extended l words = leaves l.answer (l.memory ++ words) l.journal

-- What a call leaves of memory, by what it leaves on the first w words: the words past them stay as they were.
unfoldable pub with_tail : {A J : Type 0} → ℕ → List ℕ → (List ℕ → Leaves A J) → Leaves A J
with_tail w memory on_cells = extended (on_cells (take w memory)) (drop w memory)
