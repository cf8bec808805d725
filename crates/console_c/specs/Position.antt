-- The position after a step.
use Rattle.session.specs.Answer.{StepAnswer}
use Rattle.std.specs.Prelude.{ℕ, List, Ok, Err}
use Rattle.std.proofs.lemmas.List.Edits.{sets}
use Rattle.console_words.specs.Position.{position_words}

-- "on 0 the new one"
abbrev pub position_after : StepAnswer → List ℕ → List ℕ
position_after (Ok p) position = sets position 0 (position_words p)
position_after (Err (number, p)) position = position
