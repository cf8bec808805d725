-- A caller that makes a step's writes one by one, each with its entry, and then closes. Assumes nothing.
use Rattle.std.proofs.Common.{◌≡◌, refl, sym, ap, ap₂, ◌∙◌, List, [], ◌∷◌, ◌++◌, ℕ, ◌+◌, add-zero, arith, length}
use Rattle.journal.specs.declared.cells.Write.{Write}
use Rattle.journal.specs.Cells.{held, put, applied}
use Rattle.journal.specs.Entries.{words_of, flatten, olds, log, closing, entered, journaled}
use Rattle.journal.proofs.EntriesLaws.{entered-append, length-log}

pub log-cons : (m : List ℕ) (w : Write) (ws : List Write) → log m (w ∷ ws) ≡ words_of (held m w.cell) ++ log (put m w) ws
unfolding log flatten olds
log-cons m w ws = refl

-- After i writes: what `rest` will still leave is what the step's writes `ws` leave from the start.
pub record Writing (cells₀ journal₀ : List ℕ) (used : ℕ) (ws : List Write) (cells journal : List ℕ) (i : ℕ) (rest : List Write) : Type 0 where
  pub cells_are : applied cells rest ≡ applied cells₀ ws
  pub journal_is : entered journal (used + i) (log cells rest) ≡ entered journal₀ used (log cells₀ ws)
  pub counted : i + length rest ≡ length ws

pub writing_start : (cells journal : List ℕ) (used : ℕ) (ws : List Write) → Writing cells journal used ws cells journal 0 ws
writing_start cells journal used ws = record {
  cells_are = refl;
  journal_is = ap (λ (e : ℕ). entered journal e (log cells ws)) (add-zero used);
  counted = omega arith;
}

module _ (cells₀ journal₀ : List ℕ) (used : ℕ) (ws : List Write) (cells journal : List ℕ) (i : ℕ) (rest : List Write)
    (r : Writing cells₀ journal₀ used ws cells journal i rest) (cells' journal' : List ℕ) where
  -- `write_cell` at entry used + i
  pub writing_turn : (w : Write) (more : List Write) → rest ≡ w ∷ more
      → cells' ≡ put cells w → journal' ≡ entered journal (used + i) (words_of (held cells w.cell))
      → Writing cells₀ journal₀ used ws cells' journal' (i + 1) more
  unfolding applied
  writing_turn w more e ec ej =
      let old : List ℕ = words_of (held cells w.cell) in
      let at : used + i + 1 ≡ used + (i + 1) = omega arith in
      record {
        cells_are = ap (λ (m : List ℕ). applied m more) ec ∙ ap (applied cells) (sym e) ∙ r.cells_are;
        journal_is =
            ap₂ (λ (j m : List ℕ). entered j (used + (i + 1)) (log m more)) ej ec
            ∙ ap (λ (k : ℕ). entered (entered journal (used + i) old) k (log (put cells w) more)) (sym at)
            ∙ sym (entered-append journal (used + i) 1 old (log (put cells w) more) refl)
            ∙ ap (entered journal (used + i)) (sym (log-cons cells w more) ∙ ap (log cells) (sym e))
            ∙ r.journal_is;
        counted = omega (arith, r.counted, ap length e);
      }

  -- `close` at entry used + k with k changes: k writes were made and none is left
  pub writing_end : (row k : ℕ) → rest ≡ [] → k ≡ i → cells' ≡ cells → journal' ≡ entered journal (used + k) (closing k row)
      → (cells' ≡ applied cells₀ ws) × (journal' ≡ journaled journal₀ used row cells₀ ws)
  unfolding applied log flatten olds entered journaled
  writing_end row k e ek ec ej =
      let n : k ≡ length ws = omega (arith, r.counted, ap length e) in
      let all : journal ≡ entered journal₀ used (log cells₀ ws) = ap (λ (l : List Write). entered journal (used + i) (log cells l)) (sym e) ∙ r.journal_is in (
        ec ∙ ap (applied cells) (sym e) ∙ r.cells_are,
        ej
            ∙ ap₂ (λ (j : List ℕ) (n : ℕ). entered j (used + n) (closing n row)) all n
            ∙ sym (entered-append journal₀ used (length ws) (log cells₀ ws) (closing (length ws) row) (length-log cells₀ ws)),
      )
