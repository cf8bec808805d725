use Rattle.std.proofs.Common.{ap, rules, ◌∙◌}
use Rattle.operands.specs.Address.{named_of, found_region}
use Rattle.operands.proofs.address.named_region.Goals as goal

pub returns-then-used : goal.returns-then-used
unfolding named_of
returns-then-used c = rw c.if-used.true (c.ok_or.ensures.value ∙ ap found_region c.lookup_region.ensures)

pub returns : goal.returns
unfolding named_of
returns c = rw c.if-used.false
