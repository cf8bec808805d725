-- console_back: "position in; on 0 the new one".
use Rattle.std.specs.Prelude.{ℕ, List}
use Rattle.tables.specs.Tables.{Tables}
use Rattle.session.specs.Answer.{step_number}
use Rattle.session_back.specs.Back.{Back, back_tables}
use Rattle.console_words.specs.Position.{position_in}
use Rattle.console_c.specs.Position.{position_after}

-- the number returned, and memory and the position at exit
pub record WentBackWords : Type 0 where
  pub number : ℕ
  pub memory : List ℕ
  pub position : List ℕ

abbrev pub went_back_words : ℕ → List ℕ → List ℕ → WentBackWords
went_back_words number memory position = record { number = number; memory = memory; position = position }

abbrev pub went_back_for : Back → List ℕ → WentBackWords
went_back_for b position = went_back_words (step_number b.answer) b.memory (position_after b.answer position)

unfoldable pub console_back : Tables → List ℕ → List ℕ → List ℕ → WentBackWords
console_back t memory journal position = went_back_for (back_tables t memory journal (position_in position)) position
