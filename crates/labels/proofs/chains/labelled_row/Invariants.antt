use Rattle.labels.proofs.ChainsLaws.{Walk}
use Rattle.labels.proofs.chains.labelled_row.Given as goal

abbrev pub invariant-loop-n : goal.invariant-loop-n
invariant-loop-n l = Walk l.instructions l.label l.n l.before l.row

abbrev pub decreases-loop-n : goal.decreases-loop-n
decreases-loop-n l = l.before
