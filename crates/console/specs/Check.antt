-- 01, Order: "Check: 1, 2, 3, 5."
use Rattle.std.specs.Prelude.{ℕ, Result, Ok, Err}
use Rattle.type_rules.specs.declared.error.ProgramError.{ProgramError}
use Rattle.type_rules.specs.declared.error.ProgramError.TheVariants as P
use Rattle.type_rules.specs.declared.error.TypeError.{TypeError}
use Rattle.tables.specs.Refusal.{refusal_number, type_error}
use Rattle.tables.specs.Tables.{Tables}
use Rattle.loader.specs.Load.{load_look}
use Rattle.type_check.specs.Check.{check_of}
use Rattle.console.specs.Answer.{after}

abbrev pub verdict_answer : Result (Unit {0}) TypeError → Result (Unit {0}) ProgramError
verdict_answer (Ok _) = Ok tt
verdict_answer (Err e) = Err (P.Type e)

unfoldable pub check_tables : Tables → Result (Unit {0}) ProgramError
check_tables t = after (load_look t) (λ r. Err (P.Refused r)) (verdict_answer (check_of t.regions t.nodes t.instructions))

-- the answer's cases: 0, the refusal's number, or "with 5 the type error" (its words are type_check's `error_words`)
abbrev pub check_number : Result (Unit {0}) ProgramError → ℕ
check_number (Ok _) = 0
check_number (Err (P.Refused r)) = refusal_number r
check_number (Err (P.Type e)) = refusal_number type_error
