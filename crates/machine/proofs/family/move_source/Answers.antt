use Rattle.std.proofs.Common.{sym, ◌∙◌, rules}
use Rattle.tables.specs.Outcome.{◌>>=◌, ◌>>◌, need}
use Rattle.tables.proofs.Passed.{seen}
use Rattle.machine.specs.Families.{move_of}
use Rattle.machine.proofs.family.move_source.Goals as goal

pub returns-in_err-s : goal.returns-in_err-s
unfolding move_of ◌>>=◌ ◌>>◌ need
returns-in_err-s c = rw (seen c.read_source.ensures c.in_err-s.was) (search rules)

pub returns : goal.returns
unfolding move_of ◌>>=◌ ◌>>◌ need
returns c = rw (seen c.read_source.ensures c.in_ok-s.was) c.put_into.ensures
