use Rattle.std.proofs.Common.{◌-◌}
use Rattle.journal.proofs.WritingLaws.{Writing}
use Rattle.call_reply.specs.Call.{reply_writes, reply_writes_from}
use Rattle.session_forward.proofs.call_step.write_reply.Given as goal

abbrev pub invariant-loop-k : goal.invariant-loop-k
invariant-loop-k l =
    Writing l.initial.cells l.initial.journal l.used (reply_writes l.regions l.parameters l.arguments l.call l.reply) l.cells l.journal l.k (reply_writes_from l.regions l.parameters l.arguments l.call l.reply l.k (l.rows - l.k))
