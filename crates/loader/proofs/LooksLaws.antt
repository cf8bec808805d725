-- The looks with and without a chosen row. Assumes nothing.
use Rattle.std.proofs.Common.{ℕ, Bool, true, false, ◌&&◌, ◌≡◌, refl, ap}
use Rattle.tables.specs.declared.refusal.Refusal.{Refusal}
use Rattle.tables.specs.Outcome.{Outcome, ◌>>◌, need}
use Rattle.tables.specs.Refusal.{table_shape, word_not_allowed, name_twice}
use Rattle.tables.specs.Tables.{Tables}
use Rattle.loader.specs.Shape.{whole_tables}
use Rattle.loader.specs.Load.{allowed_tables, chosen_row, distinct_names, chosen_look, load_look, load_row_look}

and_true : (b : Bool) → (b && true) ≡ b
and_true true = refl
and_true false = refl

pub tables_look : (t : Tables) → chosen_look t true ≡ load_look t
unfolding chosen_look load_look
tables_look t = rw (and_true (allowed_tables t))

-- two looks with one refusal, and those after them
two_looks : {A : Type 0} (a b : Bool) (r : Refusal) (more : Outcome A) → (need (a && b) r >> more) ≡ (need a r >> (need b r >> more))
unfolding ◌>>◌ need
two_looks true b r more = refl
two_looks false b r more = refl

pub row_look : (t : Tables) (row family : ℕ) → chosen_look t (chosen_row t.instructions row family) ≡ load_row_look t row family
unfolding chosen_look load_row_look
row_look t row family =
    ap (λ (s : Outcome (Unit {0})). need (whole_tables t) table_shape >> s)
    (two_looks (allowed_tables t) (chosen_row t.instructions row family) word_not_allowed (need (distinct_names t.regions t.externs) name_twice))
