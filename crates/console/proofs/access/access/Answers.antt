use Rattle.std.proofs.Common.{rules}
use Rattle.tables.proofs.Passed.{seen}
use Rattle.loader.proofs.Loaded.{loaded_row, chosen}
use Rattle.console.specs.Access.{access_tables}
use Rattle.console.proofs.Facts.{call-ranges}
use Rattle.console.proofs.access.access.Goals as goal

pub returns-in_err-load_row : goal.returns-in_err-load_row
unfolding access_tables
returns-in_err-load_row c = rw (seen c.load_row.ensures c.in_err-load_row.was) (search rules)

pub instruction_at-x-requires : goal.instruction_at-x-requires
instruction_at-x-requires c = (chosen _ _ _ (loaded_row _ _ _ (seen c.load_row.ensures c.in_ok-load_row.was)).1).0

pub access_call-requires : goal.access_call-requires
access_call-requires c =
    let l = loaded_row _ _ _ (seen c.load_row.ensures c.in_ok-load_row.was) in
    rw c.instruction_at-x.ensures (call-ranges _ l.0 l.1)

pub returns : goal.returns
unfolding access_tables
returns c =
    rw (seen c.load_row.ensures c.in_ok-load_row.was) (rw c.instruction_at-x.ensures at c.access_call.ensures)
