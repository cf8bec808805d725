-- The region that a cell lies in, its declared kind, and the cells that open leaves. Assumes nothing.
use Prim.Native.Nat.{ℕ, zero, suc, ◌+◌, ◌*◌, ◌<◌, ◌≤◌}
use mathlib.Core.List.{List}
use mathlib.Core.Path.{◌≡◌, refl, ap, ◌∙◌}
use native.Mathlib.Omega.{arith}
use native.Mathlib.Decide.{ℕ_discrete}
use lib.ListN.{length, get_or}
use borrow.Author.Tests.{lt-ltb, le-ltb}
use Rattle.tables.specs.Rows.{region_rows, region_kind, region_length}
use Rattle.tables.specs.Cells.{cells_in, first_cell, cell_count}
use Rattle.tables.proofs.CellsLaws.{first_cell-next, first_cell_mono}
use Rattle.journal.specs.Cells.{held}
use Rattle.operands.specs.Address.{address_of}
use Rattle.operands.specs.Reach.{Laid}
use Rattle.operands.specs.Kinds.{region_among, region_of, declared_kind, zeros_from, zeros}

module _ (regions : List ℕ) where
  region_among_lem : (n r i : ℕ) → r < n → i < cells_in regions r → region_among regions n (first_cell regions r + i) ≡ r
  unfolding region_among
  region_among_lem zero r i h l = absurd (omega arith)
  region_among_lem (suc n) r i h l = at (ℕ_discrete r n) (λ q. region_among_lem n r i q l)
    where
      at : Dec (r ≡ n) → (r < n → region_among regions n (first_cell regions r + i) ≡ r) → region_among regions (suc n) (first_cell regions r + i) ≡ r
      at (yes e) ih = rw (e, le-ltb (first_cell regions n + i) (first_cell regions n) (omega arith))
      at (no ne) ih =
          let k : first_cell regions (r + 1) ≤ first_cell regions n = first_cell_mono regions (r + 1) n (omega arith) in
          rw (lt-ltb (first_cell regions r + i) (first_cell regions n) (omega (arith, first_cell-next regions r))) (ih (omega arith))

  -- a cell that a region adds lies in it
  pub region_of_lem : (r i : ℕ) → r < region_rows regions → i < cells_in regions r → region_of regions (first_cell regions r + i) ≡ r
  unfolding region_of
  region_of_lem r i h l = region_among_lem (region_rows regions) r i h l

  -- and has its kind
  pub kind_own : (r i : ℕ) → r < region_rows regions → i < cells_in regions r → declared_kind regions (first_cell regions r + i) ≡ region_kind regions r
  unfolding declared_kind
  kind_own r i h l = ap (region_kind regions) (region_of_lem r i h l)

  -- ---- zero cells

  length_from : (n c : ℕ) → length (zeros_from regions c n) ≡ 2 * n
  unfolding zeros_from
  length_from zero c = refl
  length_from (suc n) c = let e = length_from n (c + 1) in omega arith

  pub length-zeros : length (zeros regions) ≡ 2 * cell_count regions
  unfolding zeros
  length-zeros = length_from (cell_count regions) 0

  words-from : (n c k : ℕ) → k < n
      → (get_or (zeros_from regions c n) (2 * k) 0 ≡ declared_kind regions (c + k)) × (get_or (zeros_from regions c n) (2 * k + 1) 0 ≡ 0)
  unfolding zeros_from
  words-from zero c k h = absurd (omega arith)
  words-from (suc n) c zero h = let e : c ≡ c + 0 = omega arith in rw (← e) (refl, refl)
  words-from (suc n) c (suc k) h =
      let e₀ : 2 * suc k ≡ suc (suc (2 * k)) = omega arith in
      let e₁ : 2 * suc k + 1 ≡ suc (suc (2 * k + 1)) = omega arith in
      let e₂ : c + suc k ≡ c + 1 + k = omega arith in
      rw (e₁, e₀, e₂) (words-from n (c + 1) k (omega arith))

  -- each cell is zero, of its declared kind
  pub zeros-at : (c : ℕ) → c < cell_count regions → held (zeros regions) c ≡ record { cell = c; kind = declared_kind regions c; word = 0 }
  unfolding zeros
  zeros-at c h =
      let e : 0 + c ≡ c = omega arith in
      let (k, w) = words-from (cell_count regions) 0 c h in
      λ t. record { cell = c; kind = (k ∙ ap (declared_kind regions) e) t; word = w t }

-- the cell at an index of a region has the region's kind
pub kind_at : {regions : List ℕ} → Laid regions → (r i : ℕ) → r < region_rows regions → i < region_length regions r
    → declared_kind regions (address_of regions r i) ≡ region_kind regions r
unfolding address_of
kind_at {regions} laid r i h l = kind_own regions r i h l
