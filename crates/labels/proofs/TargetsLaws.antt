-- Laws of kept targets: how they grow row by row. Assumes nothing.
use Rattle.std.proofs.Common.{ℕ, ◌+◌, ◌<◌, ◌≤◌, true, List, ◌≡◌, sym, ◌∙◌, arith, get_or, set, length, length-set, get_or-set_same, get_or-set_other}
use native.Mathlib.Decide.{ℕ_discrete}
use Rattle.tables.specs.Rows.{instruction_rows, instruction_at}
use Rattle.tables.proofs.FirstLaws.{never}
use Rattle.labels.specs.Labels.{is_jump, label_at, label_row, unlabelled}
use Rattle.labels.specs.Targets.{Targets}
use Rattle.labels.proofs.LabelsLaws.{no_jump}

module _ (instructions targets : List ℕ) (room : instruction_rows instructions ≤ length targets) where
  -- of no rows, whatever the list holds
  pub targets_start : Targets instructions targets 0
  targets_start = record { room = room; each = λ k h jump. absurd (omega arith) }

  -- of a program without jumps
  pub targets_none : unlabelled instructions ≡ true → Targets instructions targets (instruction_rows instructions)
  targets_none e = record { room = room; each = λ k h jump. never (sym (no_jump instructions e k h) ∙ jump) }

module _ (instructions targets : List ℕ) (n : ℕ) (s : Targets instructions targets n) where
  -- a jump
  pub targets_add : {target : ℕ} → n < instruction_rows instructions → target ≡ label_row instructions (label_at instructions n) → Targets instructions (set targets n target) (n + 1)
  targets_add {target} l e = record { room = let r = s.room in let q = length-set targets n target in omega (arith, r, q); each = λ k h jump. at k h jump (ℕ_discrete k n) }
    where
      at : (k : ℕ) → k < n + 1 → is_jump (instruction_at instructions k) ≡ true → Dec (k ≡ n) → get_or (set targets n target) k 0 ≡ label_row instructions (label_at instructions k)
      at k h jump (yes q) = rw (q, get_or-set_same targets n target 0 (let r = s.room in omega (arith, r, l))) e
      at k h jump (no ne) = rw (get_or-set_other targets n k target 0 ne) (s.each k (omega arith) jump)
