-- 01, Node: "0 address (name, index), 1 function call, 2 infix, 3 number (real bits, imaginary bits), 4 pi, 5 prefix, 6 variable (name)".
use Rattle.std.specs.Prelude.{ℕ}

abbrev pub address : ℕ
address = 0

abbrev pub function_call : ℕ
function_call = 1

abbrev pub infix_expression : ℕ
infix_expression = 2

abbrev pub number : ℕ
number = 3

abbrev pub pi : ℕ
pi = 4

abbrev pub prefix_expression : ℕ
prefix_expression = 5

abbrev pub variable : ℕ
variable = 6
