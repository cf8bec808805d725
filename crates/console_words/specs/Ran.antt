-- A run's three words: steps taken, which stop, the refusal's number or 0.
use Rattle.std.specs.Prelude.{ℕ, List, [], ◌∷◌}
use Rattle.session.specs.Answer.{stop_number, refusal_of}
use Rattle.session.specs.declared.answer.Stop.{Stop}

abbrev pub ran_words : ℕ → Stop → List ℕ
ran_words steps stop = steps ∷ stop_number stop ∷ refusal_of stop ∷ []
