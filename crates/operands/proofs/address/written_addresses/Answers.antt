use Rattle.std.proofs.Common.{sym, ◌∙◌, rules}
use Rattle.tables.specs.Outcome.{◌>>=◌}
use Rattle.tables.proofs.Passed.{seen}
use Rattle.operands.specs.Address.{addresses_of}
use Rattle.operands.proofs.address.written_addresses.Goals as goal

pub written_cell-requires : goal.written_cell-requires
written_cell-requires c = (λ t. c.requires.first (sym c.indexes_first.ensures ∙ t), c.requires.laid)

pub written_cell-requires-2 : goal.written_cell-requires-2
written_cell-requires-2 c = (λ t. c.requires.second (sym c.indexes_second.ensures ∙ t), c.requires.laid)

pub written_cell-requires-3 : goal.written_cell-requires-3
written_cell-requires-3 c = (c.requires.source, c.requires.laid)

pub returns-in_err-first : goal.returns-in_err-first
unfolding addresses_of ◌>>=◌
returns-in_err-first c = rw (seen (rw c.indexes_first.ensures at c.written_cell.ensures) c.in_err-first.was) (search rules)

pub returns-in_err-second : goal.returns-in_err-second
unfolding addresses_of ◌>>=◌
returns-in_err-second c = rw (seen (rw c.indexes_first.ensures at c.written_cell.ensures) c.in_ok-first.was, seen (rw c.indexes_second.ensures at c.written_cell-2.ensures) c.in_err-second.was) (search rules)

pub returns-in_err-source : goal.returns-in_err-source
unfolding addresses_of ◌>>=◌
returns-in_err-source c = rw (seen (rw c.indexes_first.ensures at c.written_cell.ensures) c.in_ok-first.was, seen (rw c.indexes_second.ensures at c.written_cell-2.ensures) c.in_ok-second.was, seen c.written_cell-3.ensures c.in_err-source.was) (search rules)

pub returns : goal.returns
unfolding addresses_of ◌>>=◌
returns c = rw (seen (rw c.indexes_first.ensures at c.written_cell.ensures) c.in_ok-first.was, seen (rw c.indexes_second.ensures at c.written_cell-2.ensures) c.in_ok-second.was, seen c.written_cell-3.ensures c.in_ok-source.was)
