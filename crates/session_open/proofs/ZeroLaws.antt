-- The loops that zero the cells: the start, a write, a region, the end. Assumes nothing.
use Prim.Native.Nat.{ℕ, ◌+◌, ◌*◌, ◌-◌, ◌/◌, ◌≤◌, ◌<◌}
use mathlib.Core.List.{List}
use mathlib.Core.Path.{◌≡◌, refl, sym, ap, subst, ◌∙◌}
use native.Mathlib.Omega.{arith}
use native.Mathlib.Decide.{ℕ_discrete}
use lib.ListN.{length, get_or}
use lib.Seq.{ext_get_or}
use Rattle.tables.specs.Rows.{region_rows, region_kind}
use Rattle.tables.specs.Sum.{sum_to}
use Rattle.tables.specs.Cells.{cells_in, first_cell, cell_count}
use Rattle.journal.specs.Cells.{cell_width, held, put}
use Rattle.journal.specs.declared.cells.Write.{Write}
use Rattle.journal.proofs.CellsLaws.{held_same, held-other}
use Rattle.tables.proofs.CellsLaws.{first_cell-within}
use Rattle.operands.specs.Kinds.{declared_kind, zeros}
use Rattle.operands.proofs.KindsLaws.{kind_own, length-zeros, zeros-at}
use Rattle.session_open.specs.Zero.{zero_cell, Zeroed, ZeroedTo}

module _ (regions : List ℕ) where
  -- a region's cells are of the regions' cells
  pub region-within : (r : ℕ) {first n : ℕ} → r < region_rows regions → first ≡ first_cell regions r → n ≡ cells_in regions r → first + n ≤ cell_count regions
  region-within r h e f = omega (arith, first_cell-within regions r h, e, f)

  pub zeroed-none : (cells : List ℕ) → ZeroedTo regions cells 0 0
  unfolding first_cell sum_to
  zeroed-none cells = record { first = refl; zeroed = λ k h. absurd (omega arith) }

  -- cell c of region r is written
  pub zeroed-put : (r : ℕ) {kind : ℕ} → kind ≡ region_kind regions r → (cells : List ℕ) (c : ℕ) {cells' : List ℕ}
      → r < region_rows regions → first_cell regions r ≤ c → c < first_cell regions r + cells_in regions r → cell_width * c + 1 < length cells
      → Zeroed regions cells c → cells' ≡ put cells (record { cell = c; kind = kind; word = 0 }) → Zeroed regions cells' (c + 1)
  zeroed-put r {kind} e cells c h l g b z w k d = ap (λ (m : List ℕ). held m k) w ∙ at (ℕ_discrete k c)
    where
      at : Dec (k ≡ c) → held (put cells (record { cell = c; kind = kind; word = 0 })) k ≡ zero_cell regions k
      at (yes q) =
          let s : first_cell regions r + (c - first_cell regions r) ≡ c = omega arith in
          let d : declared_kind regions c ≡ region_kind regions r = rw s at (kind_own regions r (c - first_cell regions r) h (omega arith)) in
          rw q (held_same cells (record { cell = c; kind = kind; word = 0 }) b
          ∙ ap (λ (y : ℕ). record { cell = c; kind = y; word = 0 }) (e ∙ sym d))
      at (no ne) = held-other cells (record { cell = c; kind = kind; word = 0 }) k ne ∙ z k (omega arith)

  -- lists of n cells that hold the same
  cells_ext : (a b : List ℕ) (n : ℕ) → length a ≡ cell_width * n → length b ≡ cell_width * n → ((c : ℕ) → c < n → held a c ≡ held b c) → a ≡ b
  cells_ext a b n la lb h = ext_get_or 0 a b (la ∙ sym lb) (λ i l. at i l (ℕ_discrete i (cell_width * (i / cell_width))))
    where
      at : (i : ℕ) → i < length a → Dec (i ≡ cell_width * (i / cell_width)) → get_or a i 0 ≡ get_or b i 0
      at i l (yes e) = subst (λ (k : ℕ). get_or a k 0 ≡ get_or b k 0) (sym e) (ap (λ (w : Write). w.kind) (h (i / cell_width) (omega arith)))
      at i l (no ne) = let e : i ≡ cell_width * (i / cell_width) + 1 = omega arith in subst (λ (k : ℕ). get_or a k 0 ≡ get_or b k 0) (sym e) (ap (λ (w : Write). w.word) (h (i / cell_width) (omega arith)))

  -- past the last region all cells are zero
  pub zeroed-all : (cells : List ℕ) {c : ℕ} → length cells ≡ cell_width * cell_count regions → ZeroedTo regions cells (region_rows regions) c → cells ≡ zeros regions
  unfolding cell_count
  zeroed-all cells l z =
      cells_ext cells (zeros regions) (cell_count regions) l (length-zeros regions)
      (λ c h. z.zeroed c (rw z.first h) ∙ sym (zeros-at regions c h))
