-- EXCHANGE's two writes leave the same cells in both orders. Assumes nothing.
use Rattle.std.proofs.Common.{Ok}
use Prim.Native.Nat.{ℕ, ◌+◌, ◌*◌}
use mathlib.Core.List.{List, [], ◌∷◌}
use mathlib.Core.Path.{◌≡◌, sym, ap, ◌∙◌}
use native.Mathlib.Omega.{arith}
use native.Mathlib.Decide.{ℕ_discrete}
use lib.ListN.{set}
use lib.Seq.{set_comm}
use Rattle.words.specs.Kind.{fits_kind}
use Rattle.tables.proofs.Passed.{passed}
use Rattle.journal.specs.declared.cells.Write.{Write}
use Rattle.journal.specs.Cells.{put, applied}
use Rattle.operands.specs.Cells.{cell_kind, cell_word, cell_at, read_of, write}
use Rattle.operands.specs.declared.cell.Value.{Value}
use Rattle.operands.proofs.Binds.{bound}
use Rattle.machine.specs.Families.{exchange_of}
use Rattle.machine.specs.Exchange.{FreeOrder}

-- writes to two cells, in any order
puts_commute : (m : List ℕ) (v w : Write) → (v.cell ≡ w.cell → ⊥) → put (put m v) w ≡ put (put m w) v
unfolding put
puts_commute m v w ne =
    let i : ℕ = v.cell in
    let j : ℕ = w.cell in
    rw (
      set_comm (set m (2 * i) v.kind) (2 * i + 1) (2 * j) v.word w.kind (λ z. omega arith),
      set_comm (set (set m (2 * i) v.kind) (2 * j) w.kind) (2 * i + 1) (2 * j + 1) v.word w.word (λ z. ne (omega arith)),
      set_comm m (2 * i) (2 * j) v.kind w.kind (λ z. ne (omega arith)),
      set_comm (set m (2 * j) w.kind) (2 * i) (2 * j + 1) v.kind w.word (λ z. omega arith),
    )

-- what a cell that was read held
read_is : (cells : List ℕ) (c : ℕ) (v : Value) → read_of cells c ≡ Ok v → cell_at cells c ≡ v
unfolding read_of
read_is cells c v e = let (t, g) = passed (fits_kind (cell_kind cells c) (cell_word cells c)) _ _ _ e in cc g

swapped : (cells : List ℕ) (i j : ℕ) (d e : Value) → cell_at cells i ≡ d → cell_at cells j ≡ e
    → put (put cells (write i e.kind e.word)) (write j d.kind d.word) ≡ put (put cells (write j d.kind d.word)) (write i e.kind e.word)
swapped cells i j d e p q = at (ℕ_discrete i j)
  where
    at : Dec (i ≡ j) → put (put cells (write i e.kind e.word)) (write j d.kind d.word) ≡ put (put cells (write j d.kind d.word)) (write i e.kind e.word)
    at (yes r) = let z : d ≡ e = sym p ∙ ap (λ (n : ℕ). cell_at cells n) r ∙ q in rw (r, z)
    at (no ne) = puts_commute cells (write i e.kind e.word) (write j d.kind d.word) ne

named : (cells : List ℕ) {v w v' w' : Write} → v ≡ v' → w ≡ w' → put (put cells v) w ≡ put (put cells w) v → put (put cells v') w' ≡ put (put cells w') v'
named cells q r h = rw (q, r) at h

pub free_order : FreeOrder
unfolding exchange_of applied
free_order cells a v w h =
    let b = bound (read_of cells a.first) _ (v ∷ w ∷ []) h in
    let c = bound (read_of cells a.second) _ (v ∷ w ∷ []) b.rest in
    let d = b.value in
    let e = c.value in
    let q : write a.first e.kind e.word ≡ v = cc c.rest in
    let r : write a.second d.kind d.word ≡ w = cc c.rest in
    named cells q r (swapped cells a.first a.second d e (read_is cells a.first d b.given) (read_is cells a.second e c.given))
