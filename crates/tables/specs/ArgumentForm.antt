-- 01, Argument: "0 identifier (name), 1 reference (name, index), 2 immediate".
use Rattle.std.specs.Prelude.{ℕ}

abbrev pub identifier : ℕ
identifier = 0

abbrev pub reference : ℕ
reference = 1

abbrev pub immediate : ℕ
immediate = 2
