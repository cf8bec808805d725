-- What the calls' inner functions ask for, from the loader's acceptance. Assumes nothing.
use Prim.Native.Nat.{ℕ, ◌+◌, ◌≤◌}
use mathlib.Core.Bool.{true}
use mathlib.Core.Path.{◌≡◌}
use Rattle.tables.specs.Tables.{Tables}
use Rattle.tables.specs.Family as family
use Rattle.tables.specs.Rows.{node_rows, instruction_at}
use Rattle.loader.specs.Load.{chosen_row}
use Rattle.loader.proofs.Loaded.{Loaded, chosen}
use Rattle.extern_call.specs.Call.{CallRanges}
use Rattle.extern_call.proofs.CallLaws.{loaded_ranges}
use Rattle.type_check.proofs.CheckLaws.{loaded_frames}

-- the ranges of a chosen CALL, and of every extern, lie in their tables
pub call-ranges : {t : Tables} (row : ℕ) → Loaded t → chosen_row t.instructions row family.call ≡ true
    → CallRanges t.externs t.parameters t.arguments (instruction_at t.instructions row)
call-ranges {t} row l c =
    let (h, f) = chosen t.instructions row family.call c in
    loaded_ranges l row h f

-- the nodes of a chosen frame lie in their table
pub frame_range : {t : Tables} (row : ℕ) → Loaded t → chosen_row t.instructions row family.frame ≡ true
    → (instruction_at t.instructions row).first_name + (instruction_at t.instructions row).first_index ≤ node_rows t.nodes
frame_range {t} row l c =
    let (h, f) = chosen t.instructions row family.frame c in
    ((loaded_frames l).row row h).inside f
