-- Where the jumps lead, found once for as many steps as are taken: at a jump's row `targets` has the row of its LABEL.
use Rattle.std.specs.Prelude.{ℕ, ◌<◌, ◌≤◌, Bool, true, List, ◌≡◌, get_or, length}
use Rattle.tables.specs.Rows.{instruction_rows, instruction_at}
use Rattle.labels.specs.Labels.{is_jump, label_at, label_row, labels_fit}

-- those of the first n rows
pub record Targets (instructions targets : List ℕ) (n : ℕ) : Type 0 where
  pub room : instruction_rows instructions ≤ length targets
  pub each : (k : ℕ) → k < n → is_jump (instruction_at instructions k) ≡ true → get_or targets k 0 ≡ label_row instructions (label_at instructions k)

-- of a program whose labels were looked at: whether they fit, and then all its targets
pub record LabelsKnown (instructions : List ℕ) (fit : Bool) (targets : List ℕ) : Type 0 where
  pub answer : fit ≡ labels_fit instructions
  pub found : fit ≡ true → Targets instructions targets (instruction_rows instructions)
