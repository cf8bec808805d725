use Rattle.std.proofs.Common.{rules}
use Rattle.tables.proofs.Passed.{seen}
use Rattle.loader.proofs.Loaded.{loaded_row, chosen}
use Rattle.console.specs.Resolve.{resolve_tables}
use Rattle.console.proofs.Facts.{call-ranges}
use Rattle.console.proofs.resolve.resolve.Goals as goal

pub returns-in_err-load_row : goal.returns-in_err-load_row
unfolding resolve_tables
returns-in_err-load_row c = rw (seen c.load_row.ensures c.in_err-load_row.was) (search rules)

pub instruction_at-x-requires : goal.instruction_at-x-requires
instruction_at-x-requires c = (chosen _ _ _ (loaded_row _ _ _ (seen c.load_row.ensures c.in_ok-load_row.was)).1).0

pub resolve_call-requires : goal.resolve_call-requires
resolve_call-requires c =
    let l = loaded_row _ _ _ (seen c.load_row.ensures c.in_ok-load_row.was) in
    rw c.instruction_at-x.ensures (call-ranges _ l.0 l.1)

pub returns : goal.returns
unfolding resolve_tables
returns c =
    rw (seen c.load_row.ensures c.in_ok-load_row.was) (rw c.instruction_at-x.ensures at c.resolve_call.ensures)
