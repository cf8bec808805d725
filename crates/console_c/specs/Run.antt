-- console_run: "position in; on 0 the new one", and on 0 the run's words.
use Rattle.session.specs.Answer.{RunAnswer}
use Rattle.std.specs.Prelude.{ℕ, List, Ok, Err}
use Rattle.std.proofs.lemmas.List.Edits.{sets}
use Rattle.tables.specs.Tables.{Tables}
use Rattle.session.specs.Answer.{run_number}
use Rattle.session_run.specs.Run.{Running, run_tables}
use Rattle.console_words.specs.Position.{position_in, position_words}
use Rattle.console_words.specs.Ran.{ran_words}

-- the number returned, and the lent words, the position and the run's words at exit
pub record RunWords : Type 0 where
  pub number : ℕ
  pub memory : List ℕ
  pub journal : List ℕ
  pub position : List ℕ
  pub ran : List ℕ

abbrev pub run_words : ℕ → List ℕ → List ℕ → List ℕ → List ℕ → RunWords
run_words number memory journal position ran = record { number = number; memory = memory; journal = journal; position = position; ran = ran }

-- "on 0"
abbrev pub position_after_run : RunAnswer → List ℕ → List ℕ
position_after_run (Ok (steps, stop, p)) position = sets position 0 (position_words p)
position_after_run (Err (number, p)) position = position

abbrev pub ran_after : RunAnswer → List ℕ → List ℕ
ran_after (Ok (steps, stop, p)) ran = sets ran 0 (ran_words steps stop)
ran_after (Err (number, p)) ran = ran

abbrev pub run_for : Running → List ℕ → List ℕ → RunWords
run_for r position ran = run_words (run_number r.answer) r.memory r.journal (position_after_run r.answer position) (ran_after r.answer ran)

unfoldable pub console_run : Tables → List ℕ → List ℕ → List ℕ → ℕ → List ℕ → RunWords
console_run t memory journal position allowance ran = run_for (run_tables t memory journal (position_in position) allowance) position ran
