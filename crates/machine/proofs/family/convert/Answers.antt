use Rattle.std.proofs.Common.{sym, ◌∙◌, rules}
use Rattle.tables.specs.Outcome.{◌>>=◌, ◌>>◌, need}
use Rattle.tables.proofs.Passed.{seen}
use Rattle.machine.specs.Families.{convert_of}
use Rattle.machine.proofs.family.convert.Goals as goal

pub returns-in_err-s : goal.returns-in_err-s
unfolding convert_of ◌>>=◌ ◌>>◌ need
returns-in_err-s c = rw (seen c.read_cell.ensures c.in_err-s.was) (search rules)

pub returns-then-not-convert_kinds : goal.returns-then-not-convert_kinds
unfolding convert_of ◌>>=◌ ◌>>◌ need
returns-then-not-convert_kinds c = rw (seen c.read_cell.ensures c.in_ok-s.was, sym c.convert_kinds.ensures ∙ c.if-not-convert_kinds.true)

pub returns-in_err-word : goal.returns-in_err-word
unfolding convert_of ◌>>=◌ ◌>>◌ need
returns-in_err-word c = rw (seen c.read_cell.ensures c.in_ok-s.was, sym c.convert_kinds.ensures ∙ c.if-not-convert_kinds.false, seen c.convert_result.ensures c.in_err-word.was) (search rules)

pub returns : goal.returns
unfolding convert_of ◌>>=◌ ◌>>◌ need
returns c = rw (seen c.read_cell.ensures c.in_ok-s.was, sym c.convert_kinds.ensures ∙ c.if-not-convert_kinds.false, seen c.convert_result.ensures c.in_ok-word.was, c.converted_kind.ensures)
