use Rattle.std.proofs.Common.{◌≡◌, ◌-◌}
use Rattle.type_check.specs.Check.{check_from, check_of}
use Rattle.type_check.proofs.program.check_program.Given as goal

abbrev pub invariant-loop-row : goal.invariant-loop-row
invariant-loop-row l = check_from l.regions l.nodes l.instructions l.row (l.rows - l.row) ≡ check_of l.regions l.nodes l.instructions
