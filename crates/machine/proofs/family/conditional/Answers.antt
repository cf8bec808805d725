use Rattle.std.proofs.Common.{rules}
use Rattle.tables.specs.Outcome.{◌>>=◌}
use Rattle.tables.proofs.Passed.{seen}
use Rattle.machine.specs.Families.{conditional_of}
use Rattle.machine.proofs.family.conditional.Goals as goal

pub returns-in_err-read_as : goal.returns-in_err-read_as
unfolding conditional_of ◌>>=◌
returns-in_err-read_as c = rw (seen c.read_as.ensures c.in_err-read_as.was) (search rules)

pub returns : goal.returns
unfolding conditional_of ◌>>=◌
returns c = rw (seen c.read_as.ensures c.in_ok-read_as.was)
