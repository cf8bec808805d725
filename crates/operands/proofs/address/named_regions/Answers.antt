use Rattle.std.proofs.Common.{sym, ◌∙◌, rules}
use Rattle.tables.specs.Outcome.{◌>>=◌}
use Rattle.tables.proofs.Passed.{seen}
use Rattle.operands.specs.Address.{names_of}
use Rattle.operands.proofs.address.named_regions.Goals as goal

pub returns-in_err-first : goal.returns-in_err-first
unfolding names_of ◌>>=◌
returns-in_err-first c = rw (seen (rw c.names_first.ensures at c.named_region.ensures) c.in_err-first.was) (search rules)

pub returns-in_err-second : goal.returns-in_err-second
unfolding names_of ◌>>=◌
returns-in_err-second c = rw (seen (rw c.names_first.ensures at c.named_region.ensures) c.in_ok-first.was, seen (rw c.names_second.ensures at c.named_region-2.ensures) c.in_err-second.was) (search rules)

pub returns-in_err-source : goal.returns-in_err-source
unfolding names_of ◌>>=◌
returns-in_err-source c = rw (seen (rw c.names_first.ensures at c.named_region.ensures) c.in_ok-first.was, seen (rw c.names_second.ensures at c.named_region-2.ensures) c.in_ok-second.was, seen c.named_region-3.ensures c.in_err-source.was) (search rules)

pub returns : goal.returns
unfolding names_of ◌>>=◌
returns c = rw (seen (rw c.names_first.ensures at c.named_region.ensures) c.in_ok-first.was, seen (rw c.names_second.ensures at c.named_region-2.ensures) c.in_ok-second.was, seen c.named_region-3.ensures c.in_ok-source.was)
