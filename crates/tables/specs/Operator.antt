-- 01: "operators numbered from 0 in the Rust's order", family by family.
use Rattle.std.specs.Prelude.{ℕ}

-- Arithmetic.
abbrev pub add : ℕ
add = 0

abbrev pub subtract : ℕ
subtract = 1

abbrev pub divide : ℕ
divide = 2

abbrev pub multiply : ℕ
multiply = 3

-- Comparison.
abbrev pub equal : ℕ
equal = 0

abbrev pub greater_than_or_equal : ℕ
greater_than_or_equal = 1

abbrev pub greater_than : ℕ
greater_than = 2

abbrev pub less_than_or_equal : ℕ
less_than_or_equal = 3

abbrev pub less_than : ℕ
less_than = 4

-- Binary logic.
abbrev pub and : ℕ
and = 0

abbrev pub ior : ℕ
ior = 1

abbrev pub xor : ℕ
xor = 2

abbrev pub shl : ℕ
shl = 3

abbrev pub shr : ℕ
shr = 4

abbrev pub ashr : ℕ
ashr = 5

-- Unary.
abbrev pub neg : ℕ
neg = 0

abbrev pub not : ℕ
not = 1

-- Frame.
abbrev pub set_frequency : ℕ
set_frequency = 0

abbrev pub set_phase : ℕ
set_phase = 1

abbrev pub set_scale : ℕ
set_scale = 2

abbrev pub shift_frequency : ℕ
shift_frequency = 3

abbrev pub shift_phase : ℕ
shift_phase = 4

-- Family 10.
abbrev pub nop : ℕ
nop = 0

abbrev pub any_other : ℕ
any_other = 1
