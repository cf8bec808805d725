-- 01: "source form (0 integer literal, 1 real literal, 2 reference, 3 none ..)".
use Rattle.std.specs.Prelude.{ℕ}

abbrev pub integer_literal : ℕ
integer_literal = 0

abbrev pub real_literal : ℕ
real_literal = 1

abbrev pub reference : ℕ
reference = 2

abbrev pub none : ℕ
none = 3
