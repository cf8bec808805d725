-- A call in a memory whose first words are the cells, by what it leaves on the cells. Assumes nothing.
use Prim.Native.Nat.{ℕ}
use mathlib.Core.List.{List, ◌++◌}
use mathlib.Core.Path.{◌≡◌, sym, ap, ◌∙◌}
use lib.ListN.{take, drop, take-append-drop}
use Rattle.session.specs.Leaves.{Leaves, leaves, extended, with_tail}

module _ {A J : Type 0} (w : ℕ) (memory : List ℕ) where
  -- what the cells are left with, and the words past them
  pub tail_kept : {a : A} {cells : List ℕ} {journal : J} (on_cells : List ℕ → Leaves A J)
      → leaves a cells journal ≡ on_cells (take w memory) → leaves a (cells ++ drop w memory) journal ≡ with_tail w memory on_cells
  unfolding with_tail
  tail_kept on_cells e = ap (λ (l : Leaves A J). extended l (drop w memory)) e

  -- where the cells are left as they were, memory is
  pub all_kept : {a : A} {journal : J} (on_cells : List ℕ → Leaves A J)
      → leaves a (take w memory) journal ≡ on_cells (take w memory) → leaves a memory journal ≡ with_tail w memory on_cells
  all_kept {a} {journal} on_cells e = ap (λ (m : List ℕ). leaves a m journal) (sym (take-append-drop w memory)) ∙ tail_kept on_cells e
