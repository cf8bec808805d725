use Rattle.std.proofs.Common.{◌≤◌}
use Rattle.stepper_told.proofs.reply.ask_reply.Given as goal

abbrev pub invariant-lines : goal.invariant-lines
invariant-lines l = l.row ≤ 65
