-- A write changes its own cell and no other word, and what the cell held takes it back. Assumes nothing.
use Rattle.std.proofs.Common.{◌≡◌, refl, ap, ◌∙◌, ◌≢◌, List, [], ◌∷◌, ◌++◌, ℕ, ◌+◌, ◌*◌, ◌≤◌, ◌<◌, arith, length, get_or, set, length-set, set-set, get_or-set_same, get_or-set_other, lt-length-set}
use native.Mathlib.Decide.{ℕ_discrete}
use lib.Seq.{set_comm, set-get_or, set-append_left}
use Rattle.journal.specs.declared.cells.Write.{Write}
use Rattle.journal.specs.Each.{Each, none, also}
use Rattle.journal.specs.Cells.{held, put, applied}

-- what holds of each element holds of each in a weaker form
pub each_map : {A : Type 0} {P Q : A → Type 0} {xs : List A} → ((x : A) → P x → Q x) → Each P xs → Each Q xs
each_map f none = none
each_map f (also {x = x} p a) = also (f x p) (each_map f a)

pub length-put : (m : List ℕ) (w : Write) → length (put m w) ≡ length m
unfolding put
length-put m w = simp length-set

pub length-applied : (m : List ℕ) (ws : List Write) → length (applied m ws) ≡ length m
unfolding applied
length-applied m [] = refl
length-applied m (w ∷ ws) = length-applied (put m w) ws ∙ length-put m w

pub applied-append : (m : List ℕ) (vs ws : List Write) → applied m (vs ++ ws) ≡ applied (applied m vs) ws
unfolding applied
applied-append m [] ws = refl
applied-append m (v ∷ vs) ws = applied-append (put m v) vs ws

-- ---- the written cell

-- a write taken back
pub put_back : (m : List ℕ) (w : Write) → put (put m w) (held m w.cell) ≡ m
unfolding put
put_back m w =
    let i : ℕ = 2 * w.cell in
    let ne : (i + 1) ≢ i = omega arith in
    ap (λ (l : List ℕ). set l (i + 1) (get_or m (i + 1) 0)) (set_comm (set m i w.kind) (i + 1) i w.word (get_or m i 0) ne)
    ∙ set-set (set (set m i w.kind) i (get_or m i 0)) (i + 1) w.word (get_or m (i + 1) 0)
    ∙ ap (λ (l : List ℕ). set l (i + 1) (get_or m (i + 1) 0)) (set-set m i w.kind (get_or m i 0) ∙ set-get_or m i 0)
    ∙ set-get_or m (i + 1) 0

pub held_same : (m : List ℕ) (w : Write) → 2 * w.cell + 1 < length m → held (put m w) w.cell ≡ w
unfolding put
held_same m w h =
    let i : ℕ = 2 * w.cell in
    let m₁ : List ℕ = set m i w.kind in
    λ t. record {
      cell = w.cell;
      kind = (get_or-set_other m₁ (i + 1) i w.word 0 (omega arith) ∙ get_or-set_same m i w.kind 0 (omega arith)) t;
      word = get_or-set_same m₁ (i + 1) w.word 0 (lt-length-set m i w.kind h) t;
    }

-- ---- the other cells

pub held-other : (m : List ℕ) (w : Write) (c : ℕ) → c ≢ w.cell → held (put m w) c ≡ held m c
unfolding put
held-other m w c ne =
    let i : ℕ = 2 * w.cell in
    let m₁ : List ℕ = set m i w.kind in
    λ t. record {
      cell = c;
      kind = (get_or-set_other m₁ (i + 1) (2 * c) w.word 0 (omega arith) ∙ get_or-set_other m i (2 * c) w.kind 0 (omega arith)) t;
      word = (get_or-set_other m₁ (i + 1) (2 * c + 1) w.word 0 (omega arith) ∙ get_or-set_other m i (2 * c + 1) w.kind 0 (omega arith)) t;
    }

pub held-applied : (m : List ℕ) (ws : List Write) (c : ℕ) → Each (λ w. c ≢ w.cell) ws → held (applied m ws) c ≡ held m c
unfolding applied
held-applied m [] c a = refl
held-applied m (w ∷ ws) c (also ne a) = held-applied (put m w) ws c a ∙ held-other m w c ne

-- ---- all cells

-- what holds of each of the first n cells and of each write still holds of each cell after the writes
module _ (P : Write → Type 0) (n : ℕ) where
  pub put-each : (m : List ℕ) (w : Write) → 2 * n ≤ length m → w.cell < n → P w → ((c : ℕ) → c < n → P (held m c)) → (c : ℕ) → c < n → P (held (put m w) c)
  put-each m w h l p all c lc = at (ℕ_discrete c w.cell)
    where
      at : Dec (c ≡ w.cell) → P (held (put m w) c)
      at (yes e) = rw (e, held_same m w (omega arith)) p
      at (no ne) = rw (held-other m w c ne) (all c lc)

  pub applied-each : (m : List ℕ) (ws : List Write) → 2 * n ≤ length m → Each (λ w. (w.cell < n) × P w) ws → ((c : ℕ) → c < n → P (held m c))
      → (c : ℕ) → c < n → P (held (applied m ws) c)
  unfolding applied
  applied-each m [] h a all = all
  applied-each m (w ∷ ws) h (also g a) all = applied-each (put m w) ws (rw length-put h) a (put-each m w h g.0 g.1 all)

-- ---- memory past the cells

pub put_past : (m past : List ℕ) (w : Write) → 2 * w.cell + 1 < length m → put (m ++ past) w ≡ put m w ++ past
unfolding put
put_past m past w h =
    let i : ℕ = 2 * w.cell in
    ap (λ (l : List ℕ). set l (i + 1) w.word) (set-append_left m past i w.kind (omega arith))
    ∙ set-append_left (set m i w.kind) past (i + 1) w.word (lt-length-set m i w.kind h)

pub applied_past : (m past : List ℕ) (ws : List Write) → Each (λ w. 2 * w.cell + 1 < length m) ws → applied (m ++ past) ws ≡ applied m ws ++ past
unfolding applied
applied_past m past [] a = refl
applied_past m past (w ∷ ws) (also h a) =
    ap (λ (l : List ℕ). applied l ws) (put_past m past w h)
    ∙ applied_past (put m w) past ws (each_map (λ (v : Write) (g : 2 * v.cell + 1 < length m). rw length-put g) a)
