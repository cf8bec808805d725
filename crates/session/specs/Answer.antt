-- The number and position for each answer of open, forward, back and run.
use Rattle.type_rules.specs.declared.error.ProgramError.{ProgramError}
use Rattle.type_rules.specs.declared.error.ProgramError.TheVariants as P
use Rattle.std.specs.Prelude.{ℕ, Result, Ok, Err}
use Rattle.tables.specs.Refusal.{refusal_number, type_error}
use Rattle.tables.specs.declared.refusal.Refusal as refusal
use Rattle.journal.specs.declared.position.Position.{Position}
use Rattle.session.specs.declared.answer.Stop.{Stop}
use Rattle.session.specs.declared.answer.Stop.TheVariants.{Allowance, End, Call, Refusal}

-- "Every answer gives the position": the new one, or with a refusal the one as given
abbrev pub OpenAnswer : Type 0
OpenAnswer = Result Position ProgramError

abbrev pub StepAnswer : Type 0
StepAnswer = Result Position (refusal.Refusal × Position)

-- the steps taken, why no more, and the new position
abbrev pub RunAnswer : Type 0
RunAnswer = Result (ℕ × Stop × Position) (refusal.Refusal × Position)

-- 0, the refusal's number, or "with 5 the type error" (its words are type_check's `error_words`)
abbrev pub open_number : OpenAnswer → ℕ
open_number (Ok p) = 0
open_number (Err (P.Refused r)) = refusal_number r
open_number (Err (P.Type e)) = refusal_number type_error

abbrev pub step_number : StepAnswer → ℕ
step_number (Ok p) = 0
step_number (Err (r, p)) = refusal_number r

-- "Every answer gives the position."
abbrev pub position_of : StepAnswer → Position
position_of (Ok p) = p
position_of (Err (r, p)) = p

-- 02, P4: "or sooner only at the end, before a CALL or at a refusal, and says which"
abbrev pub stop_number : Stop → ℕ
stop_number Allowance = 0
stop_number End = 1
stop_number Call = 2
stop_number (Refusal r) = 3

-- "A stop at a step's refusal is an answer that gives its number"; 0 for every other stop
abbrev pub refusal_of : Stop → ℕ
refusal_of Allowance = 0
refusal_of End = 0
refusal_of Call = 0
refusal_of (Refusal r) = refusal_number r

-- a stop is an answer
abbrev pub run_number : RunAnswer → ℕ
run_number (Ok (steps, stop, p)) = 0
run_number (Err (r, p)) = refusal_number r

abbrev pub run_position : RunAnswer → Position
run_position (Ok (steps, stop, p)) = p
run_position (Err (r, p)) = p
