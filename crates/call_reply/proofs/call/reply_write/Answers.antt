use Rattle.call_reply.proofs.ReplyLaws.{replied_hit}
use Rattle.call_reply.proofs.call.reply_write.Goals as goal

pub cell-cell-requires : goal.cell-cell-requires
cell-cell-requires c = rw c.reply_at-y.ensures (replied_hit _ _ _ _ _ _ c.requires)
