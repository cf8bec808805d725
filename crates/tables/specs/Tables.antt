-- The six tables, each a flat list of 64-bit words.
use Rattle.std.specs.Prelude.{ℕ, List}

pub record Tables : Type 0 where
  pub regions : List ℕ
  pub externs : List ℕ
  pub parameters : List ℕ
  pub nodes : List ℕ
  pub arguments : List ℕ
  pub instructions : List ℕ

abbrev pub tables_of : List ℕ → List ℕ → List ℕ → List ℕ → List ℕ → List ℕ → Tables
tables_of r e p n a i = record { regions = r; externs = e; parameters = p; nodes = n; arguments = a; instructions = i }
