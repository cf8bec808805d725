-- What open's inner functions ask for, from the looks before them; and open in a memory whose first words are the cells. Assumes nothing.
use Rattle.session.specs.Answer.{OpenAnswer}
use Rattle.type_rules.specs.declared.error.ProgramError.TheVariants as P
use Rattle.std.proofs.Common.{Ok, Err}
use Prim.Native.Nat.{ℕ, ◌*◌}
use mathlib.Core.List.{List, ◌++◌}
use mathlib.Core.Path.{◌≡◌, refl}
use lib.ListN.{length, take, drop}
use Rattle.tables.specs.declared.refusal.Refusal.{Refusal}
use Rattle.tables.specs.Tables.{Tables}
use Rattle.tables.specs.Cells.{cell_count}
use Rattle.loader.proofs.Loaded.{Loaded, few-instructions}
use Rattle.extern_call.proofs.CallLaws.{loaded_ranges}
use Rattle.journal.specs.Cells.{cell_width}
use Rattle.session.specs.Prepare.{prepared_of, Ready}
use Rattle.session.proofs.Prepared.{prepared, tables-looked}
use Rattle.session.proofs.LeavesLaws.{tail_kept, all_kept}
use Rattle.session_open.specs.Open.{CallsInside, program_verdict, tables_verdict, open_verdict, opening, open_cells, Openable, open_tables}

-- the program is within its limit, and every CALL's ranges lie in their tables
pub loaded_calls : {t : Tables} → Loaded t → CallsInside t.externs t.parameters t.arguments t.instructions
loaded_calls l = record { few = few-instructions l; row = loaded_ranges l }

pub ready_open : {t : Tables} {cells : List ℕ} {journal : ℕ} → Ready t cells journal → Openable t cells
ready_open r = record { loads = r.loads; layout = r.layout }

-- ---- in memory

module _ (t : Tables) (memory : List ℕ) (journal : ℕ) where
  -- 1, 2, 3, 10 or 4
  pub open_unprepared : {number : Refusal} → prepared_of t (length memory) journal ≡ Err number → opening (Err (P.Refused number)) memory ≡ open_tables t memory journal
  unfolding open_tables open_verdict open_cells
  open_unprepared {number} e = rw e (all_kept (cell_width * cell_count t.regions) memory (λ cells. open_cells t.regions cells (Err (P.Refused number))) refl)

  -- behind them, with n cells
  pub open_on : {n : ℕ} → prepared_of t (length memory) journal ≡ Ok n → {a : OpenAnswer} {cells : List ℕ}
      → opening a cells ≡ open_cells t.regions (take (cell_width * n) memory) (program_verdict t)
      → opening a (cells ++ drop (cell_width * n) memory) ≡ open_tables t memory journal
  unfolding open_tables open_verdict tables_verdict
  open_on {n} e h =
      rw (e, tables-looked t (length memory) journal e, ← (prepared t (length memory) journal e).count)
      (tail_kept (cell_width * n) memory (λ cells. open_cells t.regions cells (program_verdict t)) h)
