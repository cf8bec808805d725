-- 01, "Turned down, by cause", and the requests of 02: each refusal, and its number.
use Rattle.std.specs.Prelude.{ℕ}
use Rattle.tables.specs.declared.refusal.Refusal.{Refusal}
use Rattle.tables.specs.declared.refusal.Refusal.TheVariants as R

-- Loader.
-- table not whole rows or over a limit
abbrev pub table_shape : Refusal
table_shape = R.TableShape

-- word not allowed, range outside its table, or chosen row absent or of the wrong family
abbrev pub word_not_allowed : Refusal
word_not_allowed = R.WordNotAllowed

-- two regions or two externs of one name
abbrev pub name_twice : Refusal
name_twice = R.NameTwice

-- lent buffer too short, or journal not whole entries or too long
abbrev pub buffer_size : Refusal
buffer_size = R.BufferSize

-- Program's author.
-- type error
abbrev pub type_error : Refusal
type_error = R.TypeError

-- extern not found
abbrev pub extern_not_found : Refusal
extern_not_found = R.ExternNotFound

-- argument count
abbrev pub argument_count : Refusal
argument_count = R.ArgumentCount

-- argument errors
abbrev pub argument_errors : Refusal
argument_errors = R.ArgumentErrors

-- instruction 10/1
abbrev pub other_instruction : Refusal
other_instruction = R.OtherInstruction

-- over 4,096 cells
abbrev pub too_many_cells : Refusal
too_many_cells = R.TooManyCells

-- Student.
-- end
abbrev pub at_end : Refusal
at_end = R.AtEnd

-- nothing to take back
abbrev pub nothing_to_take_back : Refusal
nothing_to_take_back = R.NothingToTakeBack

-- journal full, exactly when changes plus 1 exceed entries left
abbrev pub journal_full : Refusal
journal_full = R.JournalFull

-- Running program.
-- index at or past length, or negative
abbrev pub index_past_length : Refusal
index_past_length = R.IndexPastLength

-- INTEGER zero divisor
abbrev pub zero_divisor : Refusal
zero_divisor = R.ZeroDivisor

-- negative shift count
abbrev pub negative_shift_count : Refusal
negative_shift_count = R.NegativeShiftCount

-- Extern routine: unfit reply, or a non-empty one outside a call.
abbrev pub unfit_reply : Refusal
unfit_reply = R.UnfitReply

-- Foreign writer.
-- no rule, or undeclared name
abbrev pub no_rule : Refusal
no_rule = R.NoRule

-- position past its tables, or journal unreadable; 02, P4: more steps than entries, an absent row left
abbrev pub foreign_position : Refusal
foreign_position = R.ForeignPosition

-- Program's author, by 02, P4.
-- a label twice or a target absent anywhere in the program
abbrev pub unfit_labels : Refusal
unfit_labels = R.UnfitLabels

-- a condition undeclared or not BIT
abbrev pub condition_not_bit : Refusal
condition_not_bit = R.ConditionNotBit

-- Program's author, by 02, P5.
-- a CONVERT between another pair of kinds, or of an undeclared name
abbrev pub unfit_conversion : Refusal
unfit_conversion = R.UnfitConversion

-- Running program, by 02, P5.
-- a NaN, an infinity or a value outside -2^63 to 2^63-1 after the fraction is dropped
abbrev pub outside_integer : Refusal
outside_integer = R.OutsideInteger

-- Program's author, by 02, P6: "an integer literal too big for its cell is a programming error".
-- a MOVE or STORE of a literal outside 0 to 1 for BIT or 0 to 255 for OCTET
abbrev pub unfit_literal : Refusal
unfit_literal = R.UnfitLiteral

-- 01's and 02's numbers
abbrev pub refusal_number : Refusal → ℕ
refusal_number R.TableShape = 1
refusal_number R.WordNotAllowed = 2
refusal_number R.NameTwice = 3
refusal_number R.BufferSize = 4
refusal_number R.TypeError = 5
refusal_number R.ExternNotFound = 6
refusal_number R.ArgumentCount = 7
refusal_number R.ArgumentErrors = 8
refusal_number R.OtherInstruction = 9
refusal_number R.TooManyCells = 10
refusal_number R.AtEnd = 11
refusal_number R.NothingToTakeBack = 12
refusal_number R.JournalFull = 13
refusal_number R.IndexPastLength = 14
refusal_number R.ZeroDivisor = 15
refusal_number R.NegativeShiftCount = 16
refusal_number R.UnfitReply = 17
refusal_number R.NoRule = 18
refusal_number R.ForeignPosition = 19
refusal_number R.UnfitLabels = 20
refusal_number R.ConditionNotBit = 21
refusal_number R.UnfitConversion = 22
refusal_number R.OutsideInteger = 23
refusal_number R.UnfitLiteral = 24
