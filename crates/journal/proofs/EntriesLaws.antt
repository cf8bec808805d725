-- A step's entries stand in the journal where the step began and are read back as they were; all other words stay. Assumes nothing.
use Rattle.std.proofs.Common.{◌≡◌, refl, sym, ap, ap₂, ◌∙◌, List, [], ◌∷◌, ◌++◌, append_assoc, ℕ, zero, suc, ◌+◌, ◌*◌, ◌≤◌, ◌<◌, not-suc-le-zero, add-zero, add-suc, suc-add, arith, length, get_or, set, take, drop, length-append, take-append-drop, length-take-le, take_at, drop-set-lt, get_or-append-add}
use lib.Seq.{sets, sets-eq, length-sets, drop-append-add, take-set-le, get_or_at}
use Rattle.journal.specs.declared.cells.Write.{Write}
use Rattle.journal.specs.Each.{Each, none, also}
use Rattle.journal.specs.Cells.{put}
use Rattle.journal.specs.Entries.{words_of, flatten, olds, log, closing, entered, journaled, changes_at, row_left_at, entry_at, entries_at}

-- ---- lengths

pub length-flatten : (ws : List Write) → length (flatten ws) ≡ 3 * length ws
unfolding flatten
length-flatten [] = refl
length-flatten (w ∷ ws) = let e = length-flatten ws in omega arith

pub length-olds : (m : List ℕ) (ws : List Write) → length (olds m ws) ≡ length ws
unfolding olds
length-olds m [] = refl
length-olds m (w ∷ ws) = ap suc (length-olds (put m w) ws)

pub length-log : (m : List ℕ) (ws : List Write) → length (log m ws) ≡ 3 * length ws
unfolding log
length-log m ws = length-flatten (olds m ws) ∙ ap (λ (n : ℕ). 3 * n) (length-olds m ws)

pub length-closing : (changes row : ℕ) → length (closing changes row) ≡ 3
unfolding closing
length-closing changes row = refl

-- a step uses one entry more than it has changes
pub length-step : (row : ℕ) (m : List ℕ) (ws : List Write) → length (log m ws ++ closing (length ws) row) ≡ 3 * (length ws + 1)
length-step row m ws = omega (arith, length-append (log m ws) (closing (length ws) row), length-log m ws, length-closing (length ws) row)

pub length-entered : (j : List ℕ) (e : ℕ) (words : List ℕ) → length (entered j e words) ≡ length j
unfolding entered
length-entered j e words = length-sets j (3 * e) words

pub length-journaled : (j : List ℕ) (used row : ℕ) (m : List ℕ) (ws : List Write) → length (journaled j used row m ws) ≡ length j
unfolding journaled
length-journaled j used row m ws = length-entered j used (log m ws ++ closing (length ws) row)

-- ---- words stored from an entry on

sets-append : (j : List ℕ) (n : ℕ) (vs ws : List ℕ) → sets j n (vs ++ ws) ≡ sets (sets j n vs) (n + length vs) ws
sets-append j n [] ws = ap (λ (k : ℕ). sets j k ws) (sym (add-zero n))
sets-append j n (v ∷ vs) ws =
    sets-append (set j n v) (suc n) vs ws
    ∙ ap (λ (k : ℕ). sets (sets (set j n v) (suc n) vs) k ws) (suc-add n (length vs) ∙ sym (add-suc n (length vs)))

take-sets : (j : List ℕ) (n i : ℕ) (vs : List ℕ) → n ≤ i → take n (sets j i vs) ≡ take n j
take-sets j n i [] h = refl
take-sets j n i (v ∷ vs) h = take-sets (set j i v) n (suc i) vs (omega arith) ∙ take-set-le n j i v h

drop-sets : (j : List ℕ) (n i : ℕ) (vs : List ℕ) → i + length vs ≤ n → drop n (sets j i vs) ≡ drop n j
drop-sets j n i [] h = refl
drop-sets j n i (v ∷ vs) h = drop-sets (set j i v) n (suc i) vs (omega arith) ∙ drop-set-lt n j i v (omega arith)

-- two runs of entries, the first k entries long, stored one after the other
pub entered-append : (j : List ℕ) (e k : ℕ) (vs ws : List ℕ) → length vs ≡ 3 * k → entered j e (vs ++ ws) ≡ entered (entered j e vs) (e + k) ws
unfolding entered
entered-append j e k vs ws l =
    let at : 3 * e + length vs ≡ 3 * (e + k) = omega arith in
    sets-append j (3 * e) vs ws ∙ ap (λ (n : ℕ). sets (sets j (3 * e) vs) n ws) at

-- what stands before and behind stays
pub entered_between : (pre rest : List ℕ) (e : ℕ) (words : List ℕ) → length pre ≡ 3 * e → length words ≤ length rest
    → entered (pre ++ rest) e words ≡ pre ++ (words ++ drop (length words) rest)
unfolding entered
entered_between pre rest e words l h =
    sets-eq words (pre ++ rest) (3 * e) (omega (arith, length-append pre rest))
    ∙ ap₂ (λ (x y : List ℕ). (x ++ words) ++ y) (take_at pre rest (3 * e) l)
    (ap (λ (n : ℕ). drop (n + length words) (pre ++ rest)) (sym l) ∙ drop-append-add pre rest (length words))
    ∙ append_assoc pre words (drop (length words) rest)

-- ---- the journal after a step

-- a step that writes nothing closes at once
pub journaled-none : (j : List ℕ) (used row : ℕ) (m : List ℕ) → journaled j used row m [] ≡ entered j used (closing 0 row)
unfolding journaled log flatten olds
journaled-none j used row m = refl

pub journaled_before : (j : List ℕ) (used row : ℕ) (m : List ℕ) (ws : List Write) → take (3 * used) (journaled j used row m ws) ≡ take (3 * used) j
unfolding journaled entered
journaled_before j used row m ws = take-sets j (3 * used) (3 * used) (log m ws ++ closing (length ws) row) (omega arith)

-- "Words past the used part are untouched"
pub journaled_past : (j : List ℕ) (used row : ℕ) (m : List ℕ) (ws : List Write)
    → drop (3 * (used + (length ws + 1))) (journaled j used row m ws) ≡ drop (3 * (used + (length ws + 1))) j
unfolding journaled entered
journaled_past j used row m ws =
    drop-sets j (3 * (used + (length ws + 1))) (3 * used) (log m ws ++ closing (length ws) row) (omega (arith, length-step row m ws))

-- a journal whose used part is `pre`: the step's entries follow it
pub journaled_between : (pre rest : List ℕ) (used row : ℕ) (m : List ℕ) (ws : List Write) → length pre ≡ 3 * used → 3 * (length ws + 1) ≤ length rest
    → journaled (pre ++ rest) used row m ws ≡ pre ++ (log m ws ++ (closing (length ws) row ++ drop (3 * (length ws + 1)) rest))
unfolding journaled
journaled_between pre rest used row m ws l h =
    let step : List ℕ = log m ws ++ closing (length ws) row in
    let n = length-step row m ws in
    entered_between pre rest used step l (omega (arith, n))
    ∙ ap (λ (k : ℕ). pre ++ (step ++ drop k rest)) n
    ∙ ap (λ (l : List ℕ). pre ++ l) (append_assoc (log m ws) (closing (length ws) row) (drop (3 * (length ws + 1)) rest))

-- the same of any journal with room for the step
pub journaled_parts : (j : List ℕ) (used row : ℕ) (m : List ℕ) (ws : List Write) → 3 * (used + (length ws + 1)) ≤ length j
    → journaled j used row m ws ≡ take (3 * used) j ++ (log m ws ++ (closing (length ws) row ++ drop (3 * (length ws + 1)) (drop (3 * used) j)))
journaled_parts j used row m ws h =
    let pre : List ℕ = take (3 * used) j in
    let rest : List ℕ = drop (3 * used) j in
    let l : length pre ≡ 3 * used = length-take-le (3 * used) j (omega arith) in
    let whole : pre ++ rest ≡ j = take-append-drop (3 * used) j in
    let n = sym (length-append pre rest) ∙ ap length whole in
    ap (λ (x : List ℕ). journaled x used row m ws) (sym whole) ∙ journaled_between pre rest used row m ws l (omega arith)

-- ---- entries read back

-- the entry that stands behind `base` entries
pub entry_at_lem : (pre post : List ℕ) (w : Write) (base : ℕ) → length pre ≡ 3 * base → entry_at (pre ++ (words_of w ++ post)) base ≡ w
entry_at_lem pre post w base e =
    let rest : List ℕ = words_of w ++ post in
    λ i. record {
      cell = get_or_at pre w.cell (w.kind ∷ w.word ∷ post) 0 (3 * base) e i;
      kind = (ap (λ (n : ℕ). get_or (pre ++ rest) (n + 1) 0) (sym e) ∙ get_or-append-add pre rest 1 0) i;
      word = (ap (λ (n : ℕ). get_or (pre ++ rest) (n + 2) 0) (sym e) ∙ get_or-append-add pre rest 2 0) i;
    }

pub entries-flatten : (pre post : List ℕ) (ws : List Write) (base : ℕ) → length pre ≡ 3 * base
    → entries_at (pre ++ (flatten ws ++ post)) base (length ws) ≡ ws
unfolding entries_at flatten
entries-flatten pre post [] base e = refl
entries-flatten pre post (w ∷ ws) base e =
    let rest : List ℕ = flatten ws ++ post in
    let shown : pre ++ ((words_of w ++ flatten ws) ++ post) ≡ pre ++ (words_of w ++ rest) = ap (λ (l : List ℕ). pre ++ l) (append_assoc (words_of w) (flatten ws) post) in
    let next : length (pre ++ words_of w) ≡ 3 * (base + 1) = length-append pre (words_of w) ∙ omega arith in
    ap (λ (j : List ℕ). entry_at j base ∷ entries_at j (base + 1) (length ws)) shown
    ∙ ap₂ (λ (x : Write) (xs : List Write). x ∷ xs) (entry_at_lem pre rest w base e)
    (ap (λ (j : List ℕ). entries_at j (base + 1) (length ws)) (sym (append_assoc pre (words_of w) rest)) ∙ entries-flatten (pre ++ words_of w) post ws (base + 1) next)

-- a step's entries are the old values
pub entries-log : (pre post m : List ℕ) (ws : List Write) (base : ℕ) → length pre ≡ 3 * base
    → entries_at (pre ++ (log m ws ++ post)) base (length ws) ≡ olds m ws
unfolding log
entries-log pre post m ws base e =
    ap (entries_at (pre ++ (flatten (olds m ws) ++ post)) base) (sym (length-olds m ws)) ∙ entries-flatten pre post (olds m ws) base e

-- the closing entry's count
pub changes_closing : (pre post : List ℕ) (changes row e : ℕ) → length pre ≡ 3 * e → changes_at (pre ++ (closing changes row ++ post)) e ≡ changes
unfolding closing
changes_closing pre post changes row e l = get_or_at pre changes (row ∷ 0 ∷ post) 0 (3 * e) l

-- and its row left
pub row-closing : (pre post : List ℕ) (changes row e : ℕ) → length pre ≡ 3 * e → row_left_at (pre ++ (closing changes row ++ post)) e ≡ row
unfolding closing
row-closing pre post changes row e l =
    ap (λ (n : ℕ). get_or (pre ++ (changes ∷ row ∷ 0 ∷ post)) (n + 1) 0) (sym l) ∙ get_or-append-add pre (changes ∷ row ∷ 0 ∷ post) 1 0

-- the closing entry of a step stands behind its entries
pub changes_log : (pre post : List ℕ) (row : ℕ) (m : List ℕ) (ws : List Write) (base : ℕ) → length pre ≡ 3 * base
    → changes_at (pre ++ (log m ws ++ (closing (length ws) row ++ post))) (base + length ws) ≡ length ws
changes_log pre post row m ws base e =
    ap (λ (j : List ℕ). changes_at j (base + length ws)) (sym (append_assoc pre (log m ws) (closing (length ws) row ++ post)))
    ∙ changes_closing (pre ++ log m ws) post (length ws) row (base + length ws) (omega (arith, length-append pre (log m ws), length-log m ws))

-- ---- the entries from `base` on, one by one

-- the last one
pub entries_last : (j : List ℕ) (base n : ℕ) → entries_at j base (suc n) ≡ entries_at j base n ++ (entry_at j (base + n) ∷ [])
unfolding entries_at
entries_last j base zero = ap (λ (b : ℕ). entry_at j b ∷ []) (sym (add-zero base))
entries_last j base (suc n) =
    let a : base + 1 + n ≡ base + suc n = omega arith in
    ap (λ (xs : List Write). entry_at j base ∷ xs) (entries_last j (base + 1) n)
    ∙ ap (λ (b : ℕ). entry_at j base ∷ (entries_at j (base + 1) n ++ (entry_at j b ∷ []))) a

-- what holds of each holds of one
pub each_entry : (P : Write → Type 0) (j : List ℕ) (base n i : ℕ) → Each P (entries_at j base n) → i < n → P (entry_at j (base + i))
unfolding entries_at
each_entry P j base zero i a h = absurd (not-suc-le-zero h)
each_entry P j base (suc n) zero (also p a) h = rw add-zero p
each_entry P j base (suc n) (suc i) (also p a) h =
    let at : base + 1 + i ≡ base + suc i = omega arith in rw at at (each_entry P j (base + 1) n i a (omega arith))

-- and what holds of one after the other holds of each
pub entries-each : (P : Write → Type 0) (j : List ℕ) (base n : ℕ) → ((i : ℕ) → i < n → P (entry_at j (base + i))) → Each P (entries_at j base n)
unfolding entries_at
entries-each P j base zero all = none
entries-each P j base (suc n) all =
    also (rw add-zero at (all 0 (omega arith))) (entries-each P j (base + 1) n (λ i h. let at : base + suc i ≡ base + 1 + i = omega arith in rw at at (all (suc i) (omega arith))))
