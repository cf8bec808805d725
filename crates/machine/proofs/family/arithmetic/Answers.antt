use Rattle.std.proofs.Common.{sym, ◌∙◌, rules}
use Rattle.tables.specs.Outcome.{◌>>=◌, ◌>>◌, need}
use Rattle.tables.proofs.Passed.{seen}
use Rattle.machine.specs.Families.{arithmetic_of, combined_of}
use Rattle.machine.proofs.family.arithmetic.Goals as goal

pub read_source-requires : goal.read_source-requires
read_source-requires c = c.requires.source

pub returns-in_err-d : goal.returns-in_err-d
unfolding arithmetic_of combined_of ◌>>=◌ ◌>>◌ need
returns-in_err-d c = rw (seen c.read_cell.ensures c.in_err-d.was) (search rules)

pub returns-in_err-s : goal.returns-in_err-s
unfolding arithmetic_of combined_of ◌>>=◌ ◌>>◌ need
returns-in_err-s c = rw (seen c.read_cell.ensures c.in_ok-d.was, seen c.read_source.ensures c.in_err-s.was) (search rules)

pub returns-then-not-arithmetic_kinds : goal.returns-then-not-arithmetic_kinds
unfolding arithmetic_of combined_of ◌>>=◌ ◌>>◌ need
returns-then-not-arithmetic_kinds c = rw (seen c.read_cell.ensures c.in_ok-d.was, seen c.read_source.ensures c.in_ok-s.was, sym c.arithmetic_kinds.ensures ∙ c.if-not-arithmetic_kinds.true)

pub returns-in_err-word : goal.returns-in_err-word
unfolding arithmetic_of combined_of ◌>>=◌ ◌>>◌ need
returns-in_err-word c = rw (seen c.read_cell.ensures c.in_ok-d.was, seen c.read_source.ensures c.in_ok-s.was, sym c.arithmetic_kinds.ensures ∙ c.if-not-arithmetic_kinds.false, seen c.arithmetic_result.ensures c.in_err-word.was) (search rules)

pub returns : goal.returns
unfolding arithmetic_of combined_of ◌>>=◌ ◌>>◌ need
returns c = rw (seen c.read_cell.ensures c.in_ok-d.was, seen c.read_source.ensures c.in_ok-s.was, sym c.arithmetic_kinds.ensures ∙ c.if-not-arithmetic_kinds.false, seen c.arithmetic_result.ensures c.in_ok-word.was)
