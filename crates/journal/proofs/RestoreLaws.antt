-- Taking back what a step logged restores the cells, a cell written twice too; the turns of the loop over entries, and what a look at them says. Assumes nothing.
use Rattle.std.proofs.Common.{◌≡◌, refl, sym, ap, ◌∙◌, ◌≢◌, Bool, true, false, List, [], ◌∷◌, ◌++◌, ℕ, suc, ◌+◌, ◌*◌, ◌-◌, ◌/◌, ◌≤◌, ◌<◌, arith, ltb, length, get_or, subst, take, drop, length-take-le, lt-ltb, ltb-true}
use mathlib.Core.Bool.{and-eq-true_iff}
use Rattle.std.proofs.lemmas.List.FromFn.{length-range_with_len, get_or-range_with_len}
use Rattle.std.specs.Bool.{MatchBool}
use Rattle.std.specs.List.{AllWithin, HoldsAt, range_with_len}
use Rattle.journal.specs.declared.cells.Write.{Write}
use Rattle.journal.specs.Each.{Each, none, also}
use Rattle.journal.specs.Cells.{held, put, applied}
use Rattle.journal.specs.Entries.{olds, log, closing, journaled, entry_at, entries_at}
use Rattle.journal.specs.Restore.{restored, undone, present}
use Rattle.journal.proofs.CellsLaws.{each_map, length-put, held-other, put_back, put_past}
use Rattle.journal.proofs.EntriesLaws.{entries-log, entries_last, each_entry, entries-each, journaled_parts}

-- ---- taking a step back

pub restored-olds : (m : List ℕ) (ws : List Write) → restored (applied m ws) (olds m ws) ≡ m
unfolding restored applied olds
restored-olds m [] = refl
restored-olds m (w ∷ ws) = ap (λ (l : List ℕ). put l (held m w.cell)) (restored-olds (put m w) ws) ∙ put_back m w

-- the entries of the writes `ws` made on `m` stand behind `base` entries
pub undo_log : (pre post m : List ℕ) (ws : List Write) (base : ℕ) → length pre ≡ 3 * base
    → undone (pre ++ (log m ws ++ post)) base (length ws) (applied m ws) ≡ m
unfolding undone
undo_log pre post m ws base e = ap (restored (applied m ws)) (entries-log pre post m ws base e) ∙ restored-olds m ws

-- a step with room in the journal, then undo
pub undo_journaled : (j : List ℕ) (used row : ℕ) (m : List ℕ) (ws : List Write) → 3 * (used + (length ws + 1)) ≤ length j
    → undone (journaled j used row m ws) used (length ws) (applied m ws) ≡ m
undo_journaled j used row m ws h =
    ap (λ (x : List ℕ). undone x used (length ws) (applied m ws)) (journaled_parts j used row m ws h)
    ∙ undo_log (take (3 * used) j) (closing (length ws) row ++ drop (3 * (length ws + 1)) (drop (3 * used) j)) m ws used
    (length-take-le (3 * used) j (omega arith))

-- ---- what restoring leaves alone

pub length-restored : (m : List ℕ) (os : List Write) → length (restored m os) ≡ length m
unfolding restored
length-restored m [] = refl
length-restored m (o ∷ os) = length-put (restored m os) o ∙ length-restored m os

pub length-undone : (j : List ℕ) (base n : ℕ) (m : List ℕ) → length (undone j base n m) ≡ length m
unfolding undone
length-undone j base n m = length-restored m (entries_at j base n)

pub held-restored : (m : List ℕ) (os : List Write) (c : ℕ) → Each (λ o. c ≢ o.cell) os → held (restored m os) c ≡ held m c
unfolding restored
held-restored m [] c a = refl
held-restored m (o ∷ os) c (also ne a) = held-other (restored m os) o c ne ∙ held-restored m os c a

restored_past : (m past : List ℕ) (os : List Write) → Each (λ o. 2 * o.cell + 1 < length m) os → restored (m ++ past) os ≡ restored m os ++ past
unfolding restored
restored_past m past [] a = refl
restored_past m past (o ∷ os) (also h a) =
    ap (λ (l : List ℕ). put l o) (restored_past m past os a) ∙ put_past (restored m os) past o (rw length-restored h)

-- ---- entries whose cells are there

pub present-each : (n : ℕ) (os : List Write) → present n os ≡ true → Each (λ o. o.cell < n) os
unfolding present
present-each n [] e = none
present-each n (o ∷ os) e =
    let both = (and-eq-true_iff (ltb o.cell n) (present n os)).0 e in
    also (ltb-true o.cell n both.0) (present-each n os both.1)

pub each-present : (n : ℕ) (os : List Write) → Each (λ o. o.cell < n) os → present n os ≡ true
unfolding present
each-present n [] a = refl
each-present n (o ∷ os) (also h a) = rw (lt-ltb o.cell n h, each-present n os a)

module _ (n : ℕ) where
  olds-below : (m : List ℕ) (ws : List Write) → Each (λ w. w.cell < n) ws → Each (λ o. o.cell < n) (olds m ws)
  unfolding olds
  olds-below m [] a = none
  olds-below m (w ∷ ws) (also h a) = also h (olds-below (put m w) ws a)

  -- the entries of writes to cells that are there
  pub present-log : (pre post m : List ℕ) (ws : List Write) (base : ℕ) → length pre ≡ 3 * base → Each (λ w. w.cell < n) ws
      → present n (entries_at (pre ++ (log m ws ++ post)) base (length ws)) ≡ true
  present-log pre post m ws base e a = ap (present n) (entries-log pre post m ws base e) ∙ each-present n (olds m ws) (olds-below m ws a)

  -- where the n cells lie in the lent words: what `undo` asks
  pub present-lent : (words : ℕ) (os : List Write) → 2 * n ≤ words → present n os ≡ true → present (words / 2) os ≡ true
  present-lent words os h e =
      each-present (words / 2) os (each_map (λ (o : Write) (l : o.cell < n). omega arith) (present-each n os e))

  -- undo leaves memory past the cells
  pub undone_past : (j : List ℕ) (base k : ℕ) (m past : List ℕ) → 2 * n ≤ length m → present n (entries_at j base k) ≡ true
      → undone j base k (m ++ past) ≡ undone j base k m ++ past
  unfolding undone
  undone_past j base k m past h e =
      restored_past m past (entries_at j base k)
      (each_map (λ (o : Write) (l : o.cell < n). omega arith) (present-each n (entries_at j base k) e))

-- ---- the loop from the last entry to the first

restored-append : (m : List ℕ) (os : List Write) (o : Write) → restored m (os ++ (o ∷ [])) ≡ restored (put m o) os
unfolding restored
restored-append m [] o = refl
restored-append m (x ∷ os) o = ap (λ (l : List ℕ). put l x) (restored-append m os o)

pub undone-turn : (j : List ℕ) (base e : ℕ) (m : List ℕ) → base < e → undone j base (e - base) m ≡ undone j base (e - 1 - base) (put m (entry_at j (e - 1)))
unfolding undone
undone-turn j base e m h =
    let n : ℕ = e - 1 - base in
    let k : e - base ≡ suc n = omega arith in
    let at : base + n ≡ e - 1 = omega arith in
    ap (λ (i : ℕ). restored m (entries_at j base i)) k
    ∙ ap (restored m) (entries_last j base n)
    ∙ restored-append m (entries_at j base n) (entry_at j (base + n))
    ∙ ap (λ (i : ℕ). restored (put m (entry_at j i)) (entries_at j base n)) at

pub undone-none : (j : List ℕ) (base e : ℕ) (m : List ℕ) → e ≤ base → undone j base (e - base) m ≡ m
unfolding undone restored entries_at
undone-none j base e m h = let k : e - base ≡ 0 = omega arith in ap (λ (n : ℕ). restored m (entries_at j base n)) k

-- ---- the look at the entries' cells

module _ (cells : ℕ) (j : List ℕ) (base count : ℕ) where
  abbrev cell_at : ℕ → ℕ
  cell_at e = (entry_at j e).cell

  present_bad : (i : ℕ) → i < count → cells ≤ cell_at (base + i) → false ≡ present cells (entries_at j base count)
  present_bad i h g = at (present cells (entries_at j base count)) refl
    where
      at : (t : Bool) → present cells (entries_at j base count) ≡ t → false ≡ t
      at true e = let l : (entry_at j (base + i)).cell < cells = each_entry (λ (o : Write). o.cell < cells) j base count i (present-each cells (entries_at j base count) e) h in absurd (omega arith)
      at false e = refl

  -- the entry at place i of those looked at
  entry_number : (P : ℕ → Type 0) (i : ℕ) → i < count → P (get_or (range_with_len base count) i 0) → P (base + i)
  entry_number P i h p = subst P (get_or-range_with_len base count i 0 h) p

  pub present-looked : (r : Bool)
      → MatchBool r (AllWithin (λ e. cell_at e < cells) (range_with_len base count) 0 (length (range_with_len base count))) ((k : ℕ) × (k < length (range_with_len base count)) × HoldsAt (λ e. cells ≤ cell_at e) (range_with_len base count) k)
      → r ≡ present cells (entries_at j base count)
  present-looked true all =
      sym (each-present cells (entries_at j base count) (entries-each (λ (o : Write). o.cell < cells) j base count (λ i h. entry_number (λ e. cell_at e < cells) i h (all i 0 (omega arith) (omega (arith, length-range_with_len base count))))))
  present-looked false (i, h, bad) = let l : i < count = omega (arith, length-range_with_len base count) in present_bad i l (entry_number (λ e. cells ≤ cell_at e) i l (bad 0))

-- what `undo` asks of all entries, said of one: its cell lies in the lent words
pub lent_at : (words : ℕ) (j : List ℕ) (base count e : ℕ) → present (words / 2) (entries_at j base count) ≡ true → base ≤ e → e < base + count
    → 2 * (entry_at j e).cell + 1 < words
lent_at words j base count e p l h =
    let at : base + (e - base) ≡ e = omega arith in
    rw at at (each_entry (λ (o : Write). 2 * o.cell + 1 < words) j base count (e - base)
    (each_map (λ (o : Write) (b : o.cell < words / 2). omega arith) (present-each (words / 2) (entries_at j base count) p)) (omega arith))
