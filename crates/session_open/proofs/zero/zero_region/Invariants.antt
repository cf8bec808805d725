use Rattle.session_open.specs.Zero.{Zeroed}
use Rattle.session_open.proofs.zero.zero_region.Given as goal

abbrev pub invariant-loop-cell : goal.invariant-loop-cell
invariant-loop-cell l = Zeroed l.regions l.cells l.cell
