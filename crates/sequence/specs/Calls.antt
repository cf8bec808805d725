-- A list of forward and back calls on the lent buffers: each call gets the buffers and the position that the last one left.
use Rattle.session.specs.Answer.{StepAnswer}
use Rattle.std.specs.Prelude.{List, [], ◌∷◌, ℕ, length}
use Rattle.tables.specs.Tables.{Tables}
use Rattle.journal.specs.declared.position.Position.{Position}
use Rattle.journal.specs.Position.{first_position}
use Rattle.session.specs.Answer as session
use Rattle.session.specs.Leaves.{Leaves, leaves}
use Rattle.session.specs.Session.{Session}
use Rattle.session_open.specs.Open.{open_tables}
use Rattle.session_forward.specs.Forward.{forward_tables}
use Rattle.session_back.specs.Back.{back_tables}

-- 01: "the calls, each forward with its reply"
pub data Call : Type 0 where
  forward : List ℕ → Call
  back : Call

-- what a call of the list answers
pub data Answer : Type 0 where
  of_step : StepAnswer → Answer

-- 0, or the refusal's number
abbrev pub number_of : Answer → ℕ
number_of (of_step a) = session.step_number a

-- 01: "Every answer gives the position."
abbrev pub position_of : Answer → Position
position_of (of_step a) = session.position_of a

-- what open leaves of a lent memory and journal
abbrev pub opened : Tables → List ℕ → List ℕ → Session
opened t memory journal = record { memory = (open_tables t memory (length journal)).memory; journal = journal; position = first_position }

-- what a call answers, and the lent words at its end
abbrev pub Called : Type 0
Called = Leaves Answer (List ℕ)

-- `forward_tables` and `back_tables` are the right sides of the promises of `forward` and `back` in console_session/src, on which console_c's `console_forward` and `console_back` rest.
-- Back is lent the journal to read alone.
abbrev pub called : Tables → Call → Session → Called
called t (forward reply) s = let l = forward_tables t s.memory s.journal s.position reply in leaves (of_step l.answer) l.memory l.journal
called t back s = let b = back_tables t s.memory s.journal s.position in leaves (of_step b.answer) b.memory s.journal

-- demand 3: "each call gets the memory and journal that open got and the last position returned"
abbrev pub after : Called → Session
after l = record { memory = l.memory; journal = l.journal; position = position_of l.answer }

abbrev pub next : Tables → Call → Session → Session
next t c s = after (called t c s)

unfoldable pub answers : Tables → List Call → Session → List Answer
answers t [] s = []
answers t (c ∷ cs) s = (called t c s).answer ∷ answers t cs (next t c s)

unfoldable pub end : Tables → List Call → Session → Session
end t [] s = s
end t (c ∷ cs) s = end t cs (next t c s)
