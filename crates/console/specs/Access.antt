-- 01, Order: "Access: 1, 2, 3, 6, 4 (argument count in each list)."
use Rattle.std.specs.Prelude.{ℕ, List, Err}
use Rattle.tables.specs.Tables.{Tables}
use Rattle.tables.specs.Family as family
use Rattle.tables.specs.Rows.{instruction_at}
use Rattle.loader.specs.Load.{load_row_look}
use Rattle.access_sets.specs.Access.{Accessing, accessing, access_call}
use Rattle.console.specs.Answer.{after}

-- the chosen row is a CALL
unfoldable pub access_tables : Tables → ℕ → List ℕ → List ℕ → Accessing
access_tables t row reads writes =
    after (load_row_look t row family.call) (λ r. accessing (Err r) reads writes)
    (access_call t.externs t.parameters t.arguments (instruction_at t.instructions row) reads writes)
