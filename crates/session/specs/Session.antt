-- A session as it is lent from call to call: memory, journal and the last position returned.
use Rattle.session.specs.Answer.{StepAnswer}
use Rattle.std.specs.Prelude.{ℕ, List}
use Rattle.journal.specs.declared.position.Position.{Position}
use Rattle.session.specs.Answer.{position_of}
use Rattle.session.specs.Leaves.{Leaves}

pub record Session : Type 0 where
  pub memory : List ℕ
  pub journal : List ℕ
  pub position : Position

-- after a step
abbrev pub after : Leaves StepAnswer (List ℕ) → Session
after l = record { memory = l.memory; journal = l.journal; position = position_of l.answer }
