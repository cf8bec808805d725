use Rattle.extern_call.proofs.CallLaws.{counted-paired}
use Rattle.call_reply.proofs.call.Looked.reply_row_fits.Goals as goal

pub hits-requires : goal.hits-requires
hits-requires c = counted-paired _ c.requires.counted c.if-self-argument.false
