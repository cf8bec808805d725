-- console_check: "error on 5: kind, row, spot, src spot, two codes".
use Rattle.type_rules.specs.declared.error.ProgramError.{ProgramError}
use Rattle.type_rules.specs.declared.error.ProgramError.TheVariants as P
use Rattle.std.specs.Prelude.{ℕ, List, Result, Ok, Err}
use Rattle.std.proofs.lemmas.List.Edits.{sets}
use Rattle.tables.specs.Tables.{Tables}
use Rattle.type_check.specs.Check.{error_words}
use Rattle.console.specs.Check.{check_tables, check_number}

-- the number returned, and the out-array at exit
pub record CheckedWords : Type 0 where
  pub number : ℕ
  pub error : List ℕ

abbrev pub checked_words : ℕ → List ℕ → CheckedWords
checked_words number error = record { number = number; error = error }

abbrev pub error_after : Result (Unit {0}) ProgramError → List ℕ → List ℕ
error_after (Ok _) error = error
error_after (Err (P.Refused number)) error = error
error_after (Err (P.Type e)) error = sets error 0 (error_words e)

unfoldable pub console_check : Tables → List ℕ → CheckedWords
console_check t error = checked_words (check_number (check_tables t)) (error_after (check_tables t) error)
