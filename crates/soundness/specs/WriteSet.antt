-- A CALL's write set, and which cells the regions in it have. Demand 3 (sequence/specs/Claim.antt): "a CALL changed only cells of regions in its write set".
use Rattle.std.specs.Prelude.{ℕ, ◌+◌, ◌<◌, ◌≤◌, true, List, [], ◌≡◌, Ok, Err}
use Rattle.tables.specs.Outcome.{Outcome}
use Rattle.tables.specs.Tables.{Tables}
use Rattle.tables.specs.Rows.{region_rows, region_name, region_length}
use Rattle.tables.specs.Cells.{origin}
use Rattle.tables.specs.declared.rows.Instruction.{Instruction}
use Rattle.extern_call.specs.Call.{find_call}
use Rattle.extern_call.specs.declared.call.ExternCall.{ExternCall}
use Rattle.access_sets.specs.Set.{has}
use Rattle.access_sets.specs.Access.{access_of}
use Rattle.access_sets.specs.declared.access.Access.TheVariants.{Write}
use Rattle.machine.specs.Outcome.{is_call}

-- region r has cell c: c lies from its origin on, before its length is over
pub record HasCell (regions : List ℕ) (r c : ℕ) : Type 0 where
  pub there : r < region_rows regions
  pub from : origin regions r ≤ c
  pub below : c < origin regions r + region_length regions r

-- the names that `access` lists as written (soundness/proofs/Access.antt: they are what the public call leaves in its list)
abbrev pub written_names : Tables → Outcome ExternCall → List ℕ
written_names t (Ok call) = access_of t.parameters t.arguments call Write
written_names t (Err number) = []

unfoldable pub write_set : Tables → Instruction → List ℕ
write_set t x = written_names t (find_call t.externs x)

-- some region in the write set has the cell
pub record Reached (t : Tables) (x : Instruction) (c : ℕ) : Type 0 where
  pub region : ℕ
  pub cell : HasCell t.regions region c
  pub named : has (region_name t.regions region) (write_set t x) ≡ true

-- the cells that a row may change. Of a row that is no CALL this says nothing.
abbrev pub MayChange : Tables → Instruction → ℕ → Type 0
MayChange t x c = is_call x ≡ true → Reached t x c
