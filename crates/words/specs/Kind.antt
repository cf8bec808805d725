-- The kinds of cells and the words that each holds.
use Rattle.std.specs.Prelude.{ℕ, ◌^◌, Bool, cond, ◌&&◌, ◌==◌, nat_lt}

-- 01, Tables: "Kinds: 0 BIT, 1 INTEGER, 2 OCTET, 3 REAL"
abbrev pub bit : ℕ
bit = 0

abbrev pub integer : ℕ
integer = 1

abbrev pub octet : ℕ
octet = 2

abbrev pub real : ℕ
real = 3

-- the kinds are the numbers below it
abbrev pub kind_count : ℕ
kind_count = 4

-- a literal's code, beside the kinds: "4 integer literal, 5 real literal"
abbrev pub integer_literal : ℕ
integer_literal = 4

abbrev pub real_literal : ℕ
real_literal = 5

-- How many bits a word of a kind has. 01, The laboratory's note: "used at 1, 8 and 64".
-- A number that is no kind has 64 too.
unfoldable pub width_of : ℕ → ℕ
width_of kind = cond (kind == bit) 1 (cond (kind == octet) 8 64)

-- A kind, and a word of that kind. 01, Machine: "a read cell with kind above 3 or a word beyond its kind (BIT 1, OCTET 255) has no rule".
unfoldable pub fits_kind : ℕ → ℕ → Bool
fits_kind kind word = nat_lt kind kind_count && nat_lt word (2 ^ width_of kind)
