-- The used entries of a journal, as those of the steps not taken back.
-- 01: "The journal .. gets cell, old kind, old word per write (exchange 2 in either order, call one per reply row), then change count, 0, 0."; 02, P4: "A closing entry's second
-- word is the row left".
use Rattle.std.specs.Prelude.{List, [], ◌∷◌, ◌++◌, ℕ, ◌+◌, ◌*◌, length, take}
use Rattle.journal.specs.declared.cells.Write.{Write}
use Rattle.journal.specs.Entries.{entry_width, flatten, olds, closing}
use Rattle.session.specs.Session.{Session}
use Rattle.sequence.specs.Replay.{Machine, History, State, row_after, cells_after, writes_after}

-- a step by its old values, in the order of its writes, and the row that it left
pub record Step : Type 0 where
  pub olds : List Write
  pub row : ℕ

-- the last step first
abbrev pub Steps : Type 0
Steps = List Step

-- the words of their entries: each step's old values, then its closing entry, the first step in front
unfoldable pub stacked : Steps → List ℕ
stacked [] = []
stacked (s ∷ steps) = stacked steps ++ (flatten s.olds ++ closing (length s.olds) s.row)

-- how many entries they are
unfoldable pub used_by : Steps → ℕ
used_by [] = 0
used_by (s ∷ steps) = used_by steps + (length s.olds + 1)

module _ (M : Machine) where
  -- the steps of the plain machine's history
  unfoldable pub steps_after : History → Steps
  steps_after [] = []
  steps_after (reply ∷ h) = record { olds = olds (cells_after M h) (writes_after M h reply); row = row_after M h } ∷ steps_after h

  abbrev pub journal_after : History → List ℕ
  journal_after h = stacked (steps_after h)

  abbrev pub journal_at : State → List ℕ
  journal_at s = journal_after s.history

-- of a session: the first entries, as many as its position says
abbrev pub used_entries : Session → List ℕ
used_entries s = take (entry_width * s.position.used) s.journal
