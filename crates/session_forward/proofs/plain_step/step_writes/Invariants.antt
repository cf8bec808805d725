use Rattle.std.proofs.Common.{drop}
use Rattle.journal.proofs.WritingLaws.{Writing}
use Rattle.session_forward.proofs.plain_step.step_writes.Given as goal

abbrev pub invariant-loop-i : goal.invariant-loop-i
invariant-loop-i l = Writing l.initial.cells l.initial.journal l.used l.writes l.cells l.journal l.i (drop l.i l.writes)
