-- How back's looks answer in the code, behind 1, 2, 3, 10 and 4.
use Rattle.std.specs.Prelude.{ℕ, List, length}
use Rattle.tables.specs.Refusal.{foreign_position}
use Rattle.tables.specs.Outcome.{Outcome, ◌>>◌, need}
use Rattle.journal.specs.declared.position.Position.{Position}
use Rattle.session.specs.Prepare.{entries_of}
use Rattle.session.specs.Position.{position_fits}
use Rattle.session_back.specs.Back.{journal_look}

-- from 19 on, of the instructions and so many cells: the change count
unfoldable pub take_back_look : List ℕ → ℕ → List ℕ → Position → Outcome ℕ
take_back_look instructions cells journal p = do
  need (position_fits instructions (entries_of (length journal)) p) foreign_position
  journal_look instructions cells journal p
