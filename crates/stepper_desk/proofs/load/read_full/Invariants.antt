use Rattle.std.proofs.Common.{◌-◌}
use Rattle.stepper_desk.proofs.load.read_full.Given as goal

-- 65,536 is the buffer's length
abbrev pub decreases-loop-count : goal.decreases-loop-count
decreases-loop-count g l = 65536 - l.count
