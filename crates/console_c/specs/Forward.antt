-- console_forward: "position in; on 0 the new one".
use Rattle.std.specs.Prelude.{ℕ, List}
use Rattle.tables.specs.Tables.{Tables}
use Rattle.session.specs.Answer.{step_number}
use Rattle.session_forward.specs.Forward.{Left, forward_tables}
use Rattle.console_words.specs.Position.{position_in}
use Rattle.console_c.specs.Position.{position_after}

-- the number returned, and the lent words and the position at exit
pub record ForwardedWords : Type 0 where
  pub number : ℕ
  pub memory : List ℕ
  pub journal : List ℕ
  pub position : List ℕ

abbrev pub forwarded_words : ℕ → List ℕ → List ℕ → List ℕ → ForwardedWords
forwarded_words number memory journal position = record { number = number; memory = memory; journal = journal; position = position }

abbrev pub forwarded_for : Left → List ℕ → ForwardedWords
forwarded_for l position = forwarded_words (step_number l.answer) l.memory l.journal (position_after l.answer position)

unfoldable pub console_forward : Tables → List ℕ → List ℕ → List ℕ → List ℕ → ForwardedWords
console_forward t memory journal position reply = forwarded_for (forward_tables t memory journal (position_in position) reply) position
