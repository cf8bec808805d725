use Rattle.std.proofs.Common.{sym, ◌∙◌, rules}
use Rattle.tables.specs.Outcome.{◌>>=◌, ◌>>◌, need}
use Rattle.tables.proofs.Passed.{seen}
use Rattle.machine.specs.Families.{unary_of}
use Rattle.machine.proofs.family.unary.Goals as goal

pub returns-in_err-d : goal.returns-in_err-d
unfolding unary_of ◌>>=◌ ◌>>◌ need
returns-in_err-d c = rw (seen c.read_cell.ensures c.in_err-d.was) (search rules)

pub returns-then-not-unary_kinds : goal.returns-then-not-unary_kinds
unfolding unary_of ◌>>=◌ ◌>>◌ need
returns-then-not-unary_kinds c = rw (seen c.read_cell.ensures c.in_ok-d.was, sym c.unary_kinds.ensures ∙ c.if-not-unary_kinds.true)

pub returns : goal.returns
unfolding unary_of ◌>>=◌ ◌>>◌ need
returns c = rw (seen c.read_cell.ensures c.in_ok-d.was, sym c.unary_kinds.ensures ∙ c.if-not-unary_kinds.false, c.unary_result.ensures)
