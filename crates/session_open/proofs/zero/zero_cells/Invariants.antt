use Rattle.session_open.specs.Zero.{ZeroedTo}
use Rattle.session_open.proofs.zero.zero_cells.Given as goal

abbrev pub invariant-loop-r : goal.invariant-loop-r
invariant-loop-r l = ZeroedTo l.regions l.cells l.r l.first
