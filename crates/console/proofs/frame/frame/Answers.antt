use Rattle.std.proofs.Common.{ap, ◌∙◌, rules}
use Rattle.tables.proofs.Passed.{seen}
use Rattle.loader.proofs.Loaded.{loaded_row, chosen}
use Rattle.console.specs.Frame.{frame_answer, frame_tables}
use Rattle.console.proofs.Facts.{frame_range}
use Rattle.console.proofs.frame.frame.Goals as goal

pub returns-in_err-load_row : goal.returns-in_err-load_row
unfolding frame_tables
returns-in_err-load_row c = rw (seen c.load_row.ensures c.in_err-load_row.was) (search rules)

pub instruction_at-x-requires : goal.instruction_at-x-requires
instruction_at-x-requires c = (chosen _ _ _ (loaded_row _ _ _ (seen c.load_row.ensures c.in_ok-load_row.was)).1).0

pub check_frame-requires : goal.check_frame-requires
check_frame-requires c =
    let l = loaded_row _ _ _ (seen c.load_row.ensures c.in_ok-load_row.was) in
    rw c.instruction_at-x.ensures (frame_range _ l.0 l.1)

pub returns : goal.returns
unfolding frame_tables
returns c =
    rw (seen c.load_row.ensures c.in_ok-load_row.was) (c.frame_answer.ensures ∙ ap frame_answer (rw c.instruction_at-x.ensures at c.check_frame.ensures))
