-- console_resolve: "On 0 it holds count resolved rows .., on 8 count error rows ..; count is written on both".
use Rattle.std.specs.Prelude.{ℕ, List}
use Rattle.std.proofs.lemmas.List.Edits.{sets}
use Rattle.tables.specs.Tables.{Tables}
use Rattle.extern_call.specs.Rows.{Resolving, resolve_number, resolve_count}
use Rattle.console.specs.Resolve.{resolve_tables}

-- the number returned, and the lent rows and the out-array at exit
pub record ResolvedWords : Type 0 where
  pub number : ℕ
  pub rows : List ℕ
  pub count : List ℕ

abbrev pub resolved_words : ℕ → List ℕ → List ℕ → ResolvedWords
resolved_words number rows count = record { number = number; rows = rows; count = count }

abbrev pub resolved_for : Resolving → List ℕ → ResolvedWords
resolved_for r count = resolved_words (resolve_number r.answer) r.rows (sets count 0 (resolve_count r.answer))

unfoldable pub console_resolve : Tables → ℕ → List ℕ → List ℕ → ResolvedWords
console_resolve t row rows count = resolved_for (resolve_tables t row rows) count
