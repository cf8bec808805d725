use Rattle.std.proofs.Common.{sym, ◌∙◌, rules}
use Rattle.tables.specs.Outcome.{◌>>=◌, ◌>>◌, need}
use Rattle.tables.proofs.Passed.{seen}
use Rattle.machine.specs.Families.{exchange_of}
use Rattle.machine.proofs.family.exchange.Goals as goal

pub returns-in_err-d : goal.returns-in_err-d
unfolding exchange_of ◌>>=◌ ◌>>◌ need
returns-in_err-d c = rw (seen c.read_cell.ensures c.in_err-d.was) (search rules)

pub returns-in_err-e : goal.returns-in_err-e
unfolding exchange_of ◌>>=◌ ◌>>◌ need
returns-in_err-e c = rw (seen c.read_cell.ensures c.in_ok-d.was, seen c.read_cell-2.ensures c.in_err-e.was) (search rules)

pub returns : goal.returns
unfolding exchange_of ◌>>=◌ ◌>>◌ need
returns c = rw (seen c.read_cell.ensures c.in_ok-d.was, seen c.read_cell-2.ensures c.in_ok-e.was)
