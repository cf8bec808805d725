-- A numbered stop's words: which stop, and the refusal's number as given.
use Rattle.std.specs.Prelude.{ℕ}
use Rattle.console_words.specs.declared.ran.NumberedStop.{NumberedStop}
use Rattle.console_words.specs.declared.ran.NumberedStop.TheVariants.{Allowance, End, Call, Refusal}

abbrev pub stop_number : NumberedStop → ℕ
stop_number Allowance = 0
stop_number End = 1
stop_number Call = 2
stop_number (Refusal number) = 3

-- 0 for every other stop
abbrev pub refusal_of : NumberedStop → ℕ
refusal_of Allowance = 0
refusal_of End = 0
refusal_of Call = 0
refusal_of (Refusal number) = number
