use Rattle.std.proofs.Common.{eq-eqb, ne_eqb, rules}
use Rattle.tables.specs.Outcome.{◌>>=◌, ◌>>◌, need}
use Rattle.tables.proofs.Passed.{seen}
use Rattle.machine.specs.Outcome.{plain_outcome}
use Rattle.machine.proofs.Reaches.{opened-named, opened-placed}
use Rattle.machine.proofs.outcome.plain_outcome.Goals as goal

pub returns-then-reply-ne0 : goal.returns-then-reply-ne0
unfolding plain_outcome ◌>>=◌ ◌>>◌ need
returns-then-reply-ne0 c = rw (ne_eqb _ 0 c.if-reply-ne0.true)

pub returns-in_err-n : goal.returns-in_err-n
unfolding plain_outcome ◌>>=◌ ◌>>◌ need
returns-in_err-n c = rw (eq-eqb _ 0 c.if-reply-ne0.false, seen c.named_regions.ensures c.in_err-n.was) (search rules)

pub written_addresses-requires : goal.written_addresses-requires
written_addresses-requires c = opened-named c.requires (seen c.named_regions.ensures c.in_ok-n.was)

pub returns-in_err-a : goal.returns-in_err-a
unfolding plain_outcome ◌>>=◌ ◌>>◌ need
returns-in_err-a c = rw (eq-eqb _ 0 c.if-reply-ne0.false, seen c.named_regions.ensures c.in_ok-n.was, seen c.written_addresses.ensures c.in_err-a.was) (search rules)

pub family_outcome-requires : goal.family_outcome-requires
family_outcome-requires c = opened-placed c.requires (seen c.named_regions.ensures c.in_ok-n.was) (seen c.written_addresses.ensures c.in_ok-a.was)

pub returns : goal.returns
unfolding plain_outcome ◌>>=◌ ◌>>◌ need
returns c = rw (eq-eqb _ 0 c.if-reply-ne0.false, seen c.named_regions.ensures c.in_ok-n.was, seen c.written_addresses.ensures c.in_ok-a.was) c.family_outcome.ensures
