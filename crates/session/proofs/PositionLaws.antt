-- What the looks at a position have seen. Assumes nothing.
use Rattle.std.proofs.Common.{Ok, Err}
use Prim.Native.Nat.{ℕ, ◌≤◌}
use mathlib.Core.Bool.{Bool, true, false}
use mathlib.Core.List.{List}
use mathlib.Core.Path.{◌≡◌, refl}
use lib.Dec.{leb}
use borrow.Author.Tests.{leb-true, le-leb}
use Rattle.tables.specs.Refusal.{foreign_position}
use Rattle.tables.specs.Outcome.{Outcome, ◌>>=◌, ◌>>◌, need}
use Rattle.tables.specs.Tables.{Tables}
use Rattle.tables.specs.Rows.{instruction_rows}
use Rattle.tables.proofs.Passed.{both}
use Rattle.journal.specs.declared.position.Position.{Position}
use Rattle.session.specs.Prepare.{entries_of, prepared_of}
use Rattle.session.specs.Position.{position_fits, placed_look}

-- a position that 19 lets pass
pub record Fits (instructions : List ℕ) (entries : ℕ) (p : Position) : Type 0 where
  pub row : p.row ≤ instruction_rows instructions
  pub steps : p.done ≤ p.used
  pub used : p.used ≤ entries

pub fits : (instructions : List ℕ) (entries : ℕ) (p : Position) → position_fits instructions entries p ≡ true → Fits instructions entries p
unfolding position_fits
fits instructions entries p e =
    let (r, e₁) = both (leb p.row (instruction_rows instructions)) _ e in
    let (s, u) = both (leb p.done p.used) _ e₁ in
    record { row = leb-true p.row (instruction_rows instructions) r; steps = leb-true p.done p.used s; used = leb-true p.used entries u }

pub fits_is : (instructions : List ℕ) (entries : ℕ) (p : Position) → Fits instructions entries p → position_fits instructions entries p ≡ true
unfolding position_fits
fits_is instructions entries p f =
    rw (le-leb p.row (instruction_rows instructions) f.row, le-leb p.done p.used f.steps, le-leb p.used entries f.used)

-- the looks behind "1, 2, 3, 10, 4, 19", as a function behind 4 makes them
pub placed_then : {A : Type 0} (t : Tables) (memory journal : ℕ) (p : Position) (rest : ℕ → Outcome A)
    → (placed_look t memory journal p >>= rest) ≡ (prepared_of t memory journal >>= (λ n. need (position_fits t.instructions (entries_of journal) p) foreign_position >> rest n))
unfolding placed_look ◌>>=◌ ◌>>◌ need
placed_then {A} t memory journal p rest = at (prepared_of t memory journal) (position_fits t.instructions (entries_of journal) p)
  where
    at : (o : Outcome ℕ) (b : Bool)
        → ((o >>= (λ n. need b foreign_position >> Ok n)) >>= rest) ≡ (o >>= (λ n. need b foreign_position >> rest n))
    at (Err number) b = refl
    at (Ok n) true = refl
    at (Ok n) false = refl
