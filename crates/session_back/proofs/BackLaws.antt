-- What back's looks have seen where they refuse nothing, and back in a memory whose first words are the cells. Assumes nothing.
use Rattle.std.proofs.Common.{ℕ, ◌*◌, ◌/◌, ◌<◌, ◌≤◌, true, List, ◌++◌, ◌≡◌, refl, arith, length, take, drop, ltb, Ok, Err}
use lib.Seq.{length-take-le}
use borrow.Author.Tests.{ltb-true}
use Rattle.tables.specs.declared.refusal.Refusal.{Refusal}
use Rattle.tables.specs.Outcome.{Outcome, ◌>>=◌}
use Rattle.tables.specs.Tables.{Tables}
use Rattle.tables.specs.Rows.{instruction_rows}
use Rattle.tables.specs.Cells.{cell_count}
use Rattle.tables.proofs.Passed.{passed}
use Rattle.journal.specs.declared.position.Position.{Position}
use Rattle.journal.specs.Cells.{cell_width}
use Rattle.journal.specs.Entries.{entries_at}
use Rattle.journal.specs.Position.{retreated}
use Rattle.journal.specs.Restore.{present, undone}
use Rattle.session.specs.Answer.{StepAnswer}
use Rattle.session.specs.Prepare.{entries_of, prepared_of}
use Rattle.session.specs.Position.{position_fits}
use Rattle.session.proofs.Prepared.{prepared}
use Rattle.session.proofs.PositionLaws.{fits, placed_then}
use Rattle.session.proofs.LeavesLaws.{tail_kept, all_kept}
use Rattle.session_back.specs.Back.{last_changes, last_row, first_entry, journal_look, back_look, backed, taken_back, back_tables}
use Rattle.session_back.specs.TakeBack.{take_back_look}

-- a step with so many changes that can be taken back
pub record TakesBack (cells : ℕ) (journal : List ℕ) (p : Position) (changes : ℕ) : Type 0 where
  pub some : 0 < p.done
  pub used : p.used ≤ entries_of (length journal)
  pub before : changes < p.used
  pub readable : present cells (entries_at journal (first_entry p changes) changes) ≡ true

pub takes_back : (instructions : List ℕ) (cells : ℕ) (journal : List ℕ) (p : Position) {changes : ℕ} → take_back_look instructions cells journal p ≡ Ok changes → TakesBack cells journal p changes
unfolding take_back_look journal_look
takes_back instructions cells journal p {changes} e =
    let n : ℕ = last_changes journal p in
    let (f, e₁) = passed (position_fits instructions (entries_of (length journal)) p) _ _ _ e in
    let (d, e₂) = passed (ltb 0 p.done) _ _ _ e₁ in
    let (u, e₃) = passed (ltb 0 p.used) _ _ _ e₂ in
    let (b, e₄) = passed (ltb n p.used) _ _ _ e₃ in
    let (r, e₅) = passed (present cells (entries_at journal (first_entry p n) n)) _ _ _ e₄ in
    let (l, e₆) = passed (ltb (last_row journal p) (instruction_rows instructions)) _ _ _ e₅ in
    let q : n ≡ changes = cc in
    record {
      some = ltb-true 0 p.done d;
      used = (fits instructions (entries_of (length journal)) p f).used;
      before = rw q at (ltb-true n p.used b);
      readable = rw q at r;
    }

-- what is left of the cells
pub took_back : (cells journal : List ℕ) (p : Position) {o : Outcome ℕ} {changes row : ℕ} {q : Position} {cells' : List ℕ} → o ≡ Ok changes
    → row ≡ last_row journal p → q ≡ retreated p row changes → cells' ≡ undone journal (first_entry p changes) changes cells → backed (Ok q) cells' ≡ taken_back cells journal p o
unfolding taken_back
took_back cells journal p e er eq ec = rw (e, eq, er, ec)

-- ---- in memory

module _ (t : Tables) (memory journal : List ℕ) (p : Position) where
  -- the looks behind 4, as `take_back` makes them
  pub back_look_lem : back_look t (length memory) journal p ≡ (prepared_of t (length memory) (length journal) >>= (λ n. take_back_look t.instructions n journal p))
  unfolding back_look take_back_look
  back_look_lem = placed_then t (length memory) (length journal) p (λ n. journal_look t.instructions n journal p)

  -- 1, 2, 3, 10 or 4
  pub back_unprepared : {number : Refusal} → prepared_of t (length memory) (length journal) ≡ Err number → backed (Err (number, p)) memory ≡ back_tables t memory journal p
  unfolding back_tables taken_back ◌>>=◌
  back_unprepared {number} e = rw (back_look_lem, e) (all_kept (cell_width * cell_count t.regions) memory (λ cells. taken_back cells journal p (Err number)) refl)

  -- behind them, with n cells
  module _ {n : ℕ} (e : prepared_of t (length memory) (length journal) ≡ Ok n) where
    pub back_on : {a : StepAnswer} {cells : List ℕ}
        → backed a cells ≡ taken_back (take (cell_width * n) memory) journal p (take_back_look t.instructions (length (take (cell_width * n) memory) / cell_width) journal p)
        → backed a (cells ++ drop (cell_width * n) memory) ≡ back_tables t memory journal p
    unfolding back_tables ◌>>=◌
    back_on h =
        let f = prepared t (length memory) (length journal) e in
        let l : length (take (cell_width * n) memory) ≡ cell_width * n = length-take-le (cell_width * n) memory f.room in
        let count : length (take (cell_width * n) memory) / cell_width ≡ n = omega arith in
        rw (back_look_lem, e, ← f.count) (tail_kept (cell_width * n) memory (λ cells. taken_back cells journal p (take_back_look t.instructions n journal p)) (rw count at h))
