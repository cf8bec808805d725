use Rattle.session_forward.proofs.CallLaws.{replied_there}
use Rattle.session_forward.proofs.call_step.write_row.Goals as goal

pub write_cell-requires : goal.write_cell-requires
write_cell-requires c =
    (rw c.reply_write-w.ensures (replied_there c.args.regions.now c.args.parameters.now c.args.arguments.now c.args.call c.args.reply.now c.args.k c.requires.0 c.requires.1), c.requires.2)

pub returns : goal.returns
returns c = record { cells_after = rw c.reply_write-w.ensures at c.write_cell.ensures.cells_after; journal_after = rw c.reply_write-w.ensures at c.write_cell.ensures.journal_after }
