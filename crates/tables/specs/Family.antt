-- 01, "Families", and 02, P4, "families 11 to 15", and P5, "family 16": the number of each, named as the definitions cite them.
use Rattle.std.specs.Prelude.{ℕ}

abbrev pub arithmetic : ℕ
arithmetic = 0

-- "second = lhs"
abbrev pub comparison : ℕ
comparison = 1

abbrev pub binary_logic : ℕ
binary_logic = 2

abbrev pub unary : ℕ
unary = 3

abbrev pub move : ℕ
move = 4

abbrev pub exchange : ℕ
exchange = 5

-- "second = source region, source = offset reference"
abbrev pub load : ℕ
load = 6

-- "first = destination region, second = offset"
abbrev pub store : ℕ
store = 7

abbrev pub frame : ℕ
frame = 8

abbrev pub call : ℕ
call = 9

-- "operator 0 is NOP, 1 any other instruction"
abbrev pub other : ℕ
other = 10

-- 02, P4: "JUMP, JUMP-WHEN, JUMP-UNLESS, LABEL and HALT, families 11 to 15. First name and index are the condition, second name the label"
abbrev pub jump : ℕ
jump = 11

abbrev pub jump_when : ℕ
jump_when = 12

abbrev pub jump_unless : ℕ
jump_unless = 13

abbrev pub label : ℕ
label = 14

abbrev pub halt : ℕ
halt = 15

-- 02, P5: "The row is family 16, its first name and index the destination, its source a reference"
abbrev pub convert : ℕ
convert = 16
