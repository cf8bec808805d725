use Rattle.std.proofs.Common.{sym, ◌∙◌, rules}
use Rattle.tables.specs.Outcome.{◌>>=◌, ◌>>◌, need}
use Rattle.tables.proofs.Passed.{seen}
use Rattle.machine.specs.Families.{comparison_of}
use Rattle.machine.proofs.family.comparison.Goals as goal

pub read_source-requires : goal.read_source-requires
read_source-requires c = c.requires.source

pub returns-in_err-l : goal.returns-in_err-l
unfolding comparison_of ◌>>=◌ ◌>>◌ need
returns-in_err-l c = rw (seen c.read_cell.ensures c.in_err-l.was) (search rules)

pub returns-in_err-s : goal.returns-in_err-s
unfolding comparison_of ◌>>=◌ ◌>>◌ need
returns-in_err-s c = rw (seen c.read_cell.ensures c.in_ok-l.was, seen c.read_source.ensures c.in_err-s.was) (search rules)

pub returns-then-not-comparison_kinds : goal.returns-then-not-comparison_kinds
unfolding comparison_of ◌>>=◌ ◌>>◌ need
returns-then-not-comparison_kinds c = rw (seen c.read_cell.ensures c.in_ok-l.was, seen c.read_source.ensures c.in_ok-s.was, sym c.comparison_kinds.ensures ∙ c.if-not-comparison_kinds.true)

pub returns : goal.returns
unfolding comparison_of ◌>>=◌ ◌>>◌ need
returns c = rw (seen c.read_cell.ensures c.in_ok-l.was, seen c.read_source.ensures c.in_ok-s.was, sym c.comparison_kinds.ensures ∙ c.if-not-comparison_kinds.false, c.comparison_result.ensures)
