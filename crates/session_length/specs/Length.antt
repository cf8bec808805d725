-- 02, P2: "Give the sum ..; a program that open would turn down gets open's number, buffers apart."
use Rattle.type_rules.specs.declared.error.ProgramError.{ProgramError}
use Rattle.type_rules.specs.declared.error.ProgramError.TheVariants as P
use Rattle.std.specs.Prelude.{ℕ, List, Result, Ok, Err}
use Rattle.tables.specs.Refusal.{refusal_number, type_error}
use Rattle.tables.specs.Tables.{Tables}
use Rattle.session_open.specs.Open.{tables_verdict}
use Rattle.session_length.specs.Entries.{journal_length}

-- by what open finds
abbrev pub length_answer : List ℕ → Result (Unit {0}) ProgramError → Result ℕ ProgramError
length_answer instructions (Ok _) = Ok (journal_length instructions)
length_answer instructions (Err e) = Err e

-- open's looks without the buffers: 1, 2, 3, 10, 5, 9, 20, 21, 22, then 6, 7, 8 by row
unfoldable pub length_tables : Tables → Result ℕ ProgramError
length_tables t = length_answer t.instructions (tables_verdict t)

-- the answer's cases: 0, the refusal's number, or "with 5 the type error" (its words are type_check's `error_words`)
abbrev pub length_number : Result ℕ ProgramError → ℕ
length_number (Ok n) = 0
length_number (Err (P.Refused r)) = refusal_number r
length_number (Err (P.Type e)) = refusal_number type_error
