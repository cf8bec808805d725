-- 02, P6: which integer literals MOVE and STORE may put into a cell of a kind. A literal is a signed number of 64 bits.
use Rattle.std.specs.Prelude.{ℕ, Bool, true, cond, ◌&&◌, pos, ◌==◌, int_le}
use Rattle.words.specs.Kind.{bit, octet}
use Rattle.words.specs.Integer.{number}

-- a number from 0 to `most`
abbrev pub up_to : ℕ → ℕ → Bool
up_to most literal = int_le (pos 0) (number literal) && int_le (number literal) (pos most)

-- not "a literal outside 0 to 1 for BIT or 0 to 255 for OCTET"; an INTEGER holds every literal
unfoldable pub literal_fits : ℕ → ℕ → Bool
literal_fits kind literal = cond (kind == bit) (up_to 1 literal) (cond (kind == octet) (up_to 255 literal) true)
