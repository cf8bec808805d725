use Rattle.std.proofs.Common.{sym, ◌∙◌, rules}
use Rattle.tables.specs.Outcome.{◌>>=◌, ◌>>◌, need}
use Rattle.tables.proofs.Passed.{seen}
use Rattle.machine.specs.Families.{load_of}
use Rattle.operands.proofs.AddressLaws.{indexed_within}
use Rattle.operands.proofs.Reaches.{in_cells}
use Rattle.machine.proofs.family.load.Goals as goal

pub index_cell-requires : goal.index_cell-requires
index_cell-requires c = (c.requires.region, c.requires.layout.laid)

pub read_cell-requires : goal.read_cell-requires
read_cell-requires c = in_cells c.requires.layout (indexed_within c.requires.layout.laid c.args.n.second c.in_ok-i.i c.requires.region (seen c.index_cell.ensures c.in_ok-c.was))

pub returns-in_err-i : goal.returns-in_err-i
unfolding load_of ◌>>=◌ ◌>>◌ need
returns-in_err-i c = rw (seen c.read_as.ensures c.in_err-i.was) (search rules)

pub returns-in_err-c : goal.returns-in_err-c
unfolding load_of ◌>>=◌ ◌>>◌ need
returns-in_err-c c = rw (seen c.read_as.ensures c.in_ok-i.was, seen c.index_cell.ensures c.in_err-c.was) (search rules)

pub returns-in_err-v : goal.returns-in_err-v
unfolding load_of ◌>>=◌ ◌>>◌ need
returns-in_err-v c = rw (seen c.read_as.ensures c.in_ok-i.was, seen c.index_cell.ensures c.in_ok-c.was, seen c.read_cell.ensures c.in_err-v.was) (search rules)

pub returns : goal.returns
unfolding load_of ◌>>=◌ ◌>>◌ need
returns c = rw (seen c.read_as.ensures c.in_ok-i.was, seen c.index_cell.ensures c.in_ok-c.was, seen c.read_cell.ensures c.in_ok-v.was)
