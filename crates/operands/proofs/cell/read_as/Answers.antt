use Rattle.std.proofs.Common.{eq-eqb, ne_eqb, rules}
use Rattle.tables.specs.Outcome.{◌>>=◌, ◌>>◌, need}
use Rattle.tables.proofs.Passed.{seen}
use Rattle.operands.specs.Cells.{read_word}
use Rattle.operands.proofs.cell.read_as.Goals as goal

pub returns-in_err-v : goal.returns-in_err-v
unfolding read_word ◌>>=◌
returns-in_err-v c = rw (seen c.read_cell.ensures c.in_err-v.was) (search rules)

pub returns-then-v-kind : goal.returns-then-v-kind
unfolding read_word ◌>>=◌ ◌>>◌ need
returns-then-v-kind c = rw (seen c.read_cell.ensures c.in_ok-v.was, ne_eqb _ _ c.if-v-kind.true)

pub returns : goal.returns
unfolding read_word ◌>>=◌ ◌>>◌ need
returns c = rw (seen c.read_cell.ensures c.in_ok-v.was, eq-eqb _ _ c.if-v-kind.false)
