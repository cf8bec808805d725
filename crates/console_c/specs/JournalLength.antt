-- console_journal_length: "entries on 0, error on 5".
use Rattle.type_rules.specs.declared.error.ProgramError.{ProgramError}
use Rattle.type_rules.specs.declared.error.ProgramError.TheVariants as P
use Rattle.std.specs.Prelude.{ℕ, List, [], ◌∷◌, Result, Ok, Err}
use Rattle.std.proofs.lemmas.List.Edits.{sets}
use Rattle.tables.specs.Tables.{Tables}
use Rattle.type_check.specs.Check.{error_words}
use Rattle.session_length.specs.Length.{length_tables, length_number}

-- the number returned, and the two out-arrays at exit
pub record LengthWords : Type 0 where
  pub number : ℕ
  pub entries : List ℕ
  pub error : List ℕ

abbrev pub length_words : ℕ → List ℕ → List ℕ → LengthWords
length_words number entries error = record { number = number; entries = entries; error = error }

-- "entries on 0"
abbrev pub entries_after : Result ℕ ProgramError → List ℕ → List ℕ
entries_after (Ok n) entries = sets entries 0 (n ∷ [])
entries_after (Err (P.Refused number)) entries = entries
entries_after (Err (P.Type e)) entries = entries

-- "error on 5"
abbrev pub error_after : Result ℕ ProgramError → List ℕ → List ℕ
error_after (Ok n) error = error
error_after (Err (P.Refused number)) error = error
error_after (Err (P.Type e)) error = sets error 0 (error_words e)

abbrev pub length_for : Result ℕ ProgramError → List ℕ → List ℕ → LengthWords
length_for answer entries error = length_words (length_number answer) (entries_after answer entries) (error_after answer error)

unfoldable pub console_journal_length : Tables → List ℕ → List ℕ → LengthWords
console_journal_length t entries error = length_for (length_tables t) entries error
