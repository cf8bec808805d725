-- The numbers in a type error. "A type error holds kind (1 undefined, 2 data type, 3 real required, 4 operand), row, spot .., spot of `src` or 0, and two codes".
use Rattle.std.specs.Prelude.{ℕ, ◌+◌}

abbrev pub undefined_error : ℕ
undefined_error = 1

abbrev pub data_type_error : ℕ
data_type_error = 2

abbrev pub real_required_error : ℕ
real_required_error = 3

abbrev pub operand_error : ℕ
operand_error = 4

-- "two codes: kinds 0 to 3, 4 integer literal, 5 real literal, 6 imaginary, 7 variable, 8 absent, 9 real or integral, 10 integral, 11 bit".
-- Those up to 5 are named in words/specs/Kind.antt.
abbrev pub imaginary : ℕ
imaginary = 6

abbrev pub variable : ℕ
variable = 7

-- an undeclared operand's code too
abbrev pub absent : ℕ
absent = 8

abbrev pub real_or_integral : ℕ
real_or_integral = 9

abbrev pub integral : ℕ
integral = 10

abbrev pub bit_only : ℕ
bit_only = 11

-- "spot of the named operand (1 first, 2 second, 3 source; in frames 4 plus the node's place in its tree, from 0)"
abbrev pub first_spot : ℕ
first_spot = 1

abbrev pub second_spot : ℕ
second_spot = 2

abbrev pub source_spot : ℕ
source_spot = 3

-- where an error has no `src`
abbrev pub no_spot : ℕ
no_spot = 0

abbrev pub node_spot : ℕ → ℕ
node_spot place = 4 + place
