-- 01, Parameter: "shape (0 scalar, 1 fixed vector, 2 variable vector)"; Extern: "return kind or 4 for none".
use Rattle.std.specs.Prelude.{ℕ}

abbrev pub scalar : ℕ
scalar = 0

abbrev pub fixed_vector : ℕ
fixed_vector = 1

abbrev pub variable_vector : ℕ
variable_vector = 2

-- in an extern, for its return kind
abbrev pub no_return : ℕ
no_return = 4
