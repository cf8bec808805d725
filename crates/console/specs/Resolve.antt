-- 01, Order: "Resolve: 1, 2, 3, 6, 7, 4 (7 words an argument), 8." "It writes nothing, but 8 in resolve writes its error rows and returns their count."
use Rattle.std.specs.Prelude.{ℕ, List, Err}
use Rattle.extern_call.specs.declared.rows.ResolveError.TheVariants as E
use Rattle.tables.specs.Tables.{Tables}
use Rattle.tables.specs.Family as family
use Rattle.tables.specs.Rows.{instruction_at}
use Rattle.loader.specs.Load.{load_row_look}
use Rattle.extern_call.specs.Rows.{Resolving, resolving, resolve_call}
use Rattle.console.specs.Answer.{after}

-- the chosen row is a CALL
unfoldable pub resolve_tables : Tables → ℕ → List ℕ → Resolving
resolve_tables t row rows =
    after (load_row_look t row family.call) (λ r. resolving (Err (E.Refused r)) rows)
    (resolve_call t.regions t.externs t.parameters t.arguments (instruction_at t.instructions row) rows)
