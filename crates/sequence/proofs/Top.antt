-- Demand 3 and the claims on a journal's length and on a step's entries: the theorems, under the claims' premises. No axioms.
use Prim.Native.Nat.{ℕ, ◌^◌, ◌<◌}
use mathlib.Core.List.{List}
use lib.ListN.{length, get_or}
use Rattle.tables.specs.Tables.{Tables}
use Rattle.soundness.specs.Sound.{Checked, Sound}
use Rattle.soundness.proofs.Sound as soundness
use Rattle.sequence.specs.Claim.{Demand3}
use Rattle.sequence.specs.JournalLength.{JournalEnough, StepEntries, ConvertEntries}
use Rattle.sequence.proofs.Opened.{Accepts, accepts}
use Rattle.sequence.proofs.Sequence.{faithful}
use Rattle.sequence.proofs.JournalLength.{enough}
use Rattle.sequence.proofs.StepEntries as every-forward

-- what an accepted open says of every row
sound : (t : Tables) → ((i : ℕ) → get_or t.instructions i 0 < 2 ^ 64) → {memory : List ℕ} {journal : ℕ} → Accepts t memory journal → Sound t
sound t words a =
    let checked : Checked t = record { loads = a.facts.loads; passes = a.checked; conditions = a.conditions; conversions = a.conversions; laid = record { few = a.facts.few }; words = words } in
    soundness.sound t checked

-- "Demand 3 is a single claim about the whole list, not one for each call."
pub demand_3 : Demand3
demand_3 t memory journal words e calls = let a = accepts t memory (length journal) e in faithful t (sound t words a) memory journal a calls

pub journal_enough : JournalEnough
journal_enough t memory journal words e calls = let a = accepts t memory (length journal) e in enough t (sound t words a) memory journal a calls

-- 02, P4: "with them each step uses at most 65 entries"
pub step-entries : StepEntries
step-entries = every-forward.step-entries

-- 02, P5: "Each is one change in the sequence theorem"
pub convert-entries : ConvertEntries
convert-entries = every-forward.convert-entries
