-- console_open: "position on 0, error on 5".
use Rattle.session.specs.Answer.{OpenAnswer}
use Rattle.type_rules.specs.declared.error.ProgramError.TheVariants as P
use Rattle.std.specs.Prelude.{ℕ, List, Ok, Err}
use Rattle.std.proofs.lemmas.List.Edits.{sets}
use Rattle.tables.specs.Tables.{Tables}
use Rattle.type_check.specs.Check.{error_words}
use Rattle.session.specs.Answer.{open_number}
use Rattle.session_open.specs.Open.{Opening, open_tables}
use Rattle.console_words.specs.Position.{position_words}

-- the number returned, and memory and the two out-arrays at exit
pub record OpenedWords : Type 0 where
  pub number : ℕ
  pub memory : List ℕ
  pub position : List ℕ
  pub error : List ℕ

abbrev pub opened_words : ℕ → List ℕ → List ℕ → List ℕ → OpenedWords
opened_words number memory position error = record { number = number; memory = memory; position = position; error = error }

-- "position on 0"
abbrev pub position_on_open : OpenAnswer → List ℕ → List ℕ
position_on_open (Ok p) position = sets position 0 (position_words p)
position_on_open (Err (P.Refused number)) position = position
position_on_open (Err (P.Type e)) position = position

-- "error on 5"
abbrev pub first_error : OpenAnswer → List ℕ → List ℕ
first_error (Ok p) error = error
first_error (Err (P.Refused number)) error = error
first_error (Err (P.Type e)) error = sets error 0 (error_words e)

abbrev pub opened_for : Opening → List ℕ → List ℕ → OpenedWords
opened_for o position error = opened_words (open_number o.answer) o.memory (position_on_open o.answer position) (first_error o.answer error)

-- of the journal the length
unfoldable pub console_open : Tables → List ℕ → ℕ → List ℕ → List ℕ → OpenedWords
console_open t memory journal position error = opened_for (open_tables t memory journal) position error
