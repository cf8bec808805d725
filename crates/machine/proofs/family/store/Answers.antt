use Rattle.std.proofs.Common.{sym, ◌∙◌, rules}
use Rattle.tables.specs.Outcome.{◌>>=◌, ◌>>◌, need}
use Rattle.tables.proofs.Passed.{seen}
use Rattle.machine.specs.Families.{store_of}
use Rattle.operands.proofs.AddressLaws.{indexed_within}
use Rattle.operands.proofs.Reaches.{in_cells}
use Rattle.machine.proofs.family.store.Goals as goal

pub read_source-requires : goal.read_source-requires
read_source-requires c = c.requires.source

pub index_cell-requires : goal.index_cell-requires
index_cell-requires c = (c.requires.region, c.requires.layout.laid)

pub put_into-requires : goal.put_into-requires
put_into-requires c = in_cells c.requires.layout (indexed_within c.requires.layout.laid c.args.n.first c.in_ok-i.i c.requires.region (seen c.index_cell.ensures c.in_ok-c.was))

pub returns-in_err-i : goal.returns-in_err-i
unfolding store_of ◌>>=◌ ◌>>◌ need
returns-in_err-i c = rw (seen c.read_as.ensures c.in_err-i.was) (search rules)

pub returns-in_err-s : goal.returns-in_err-s
unfolding store_of ◌>>=◌ ◌>>◌ need
returns-in_err-s c = rw (seen c.read_as.ensures c.in_ok-i.was, seen c.read_source.ensures c.in_err-s.was) (search rules)

pub returns-in_err-c : goal.returns-in_err-c
unfolding store_of ◌>>=◌ ◌>>◌ need
returns-in_err-c c = rw (seen c.read_as.ensures c.in_ok-i.was, seen c.read_source.ensures c.in_ok-s.was, seen c.index_cell.ensures c.in_err-c.was) (search rules)

pub returns : goal.returns
unfolding store_of ◌>>=◌ ◌>>◌ need
returns c = rw (seen c.read_as.ensures c.in_ok-i.was, seen c.read_source.ensures c.in_ok-s.was, seen c.index_cell.ensures c.in_ok-c.was) c.put_into.ensures
