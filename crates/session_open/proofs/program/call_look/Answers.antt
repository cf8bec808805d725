use Rattle.std.proofs.Common.{eq-eqb, ne_eqb, rules}
use Rattle.tables.specs.Outcome.{◌>>◌}
use Rattle.tables.proofs.Passed.{seen}
use Rattle.session_open.specs.Open.{call_look}
use Rattle.session_open.proofs.program.call_look.Goals as goal

pub returns-then-x-ne-CALL : goal.returns-then-x-ne-CALL
unfolding call_look
returns-then-x-ne-CALL c = rw (ne_eqb _ _ (rw c.instruction_at-x.ensures at c.if-x-ne-CALL.true))

pub resolves-requires : goal.resolves-requires
resolves-requires c = rw c.instruction_at-x.ensures (c.requires.1.row _ c.requires.0 (rw c.instruction_at-x.ensures at c.if-x-ne-CALL.false))

pub returns-in_err-resolves : goal.returns-in_err-resolves
unfolding call_look ◌>>◌
returns-in_err-resolves c = rw (eq-eqb _ _ (rw c.instruction_at-x.ensures at c.if-x-ne-CALL.false), seen (rw c.instruction_at-x.ensures at c.resolves.ensures) c.in_err-resolves.was) (search rules)

pub returns : goal.returns
unfolding call_look ◌>>◌
returns c = rw (eq-eqb _ _ (rw c.instruction_at-x.ensures at c.if-x-ne-CALL.false), seen (rw c.instruction_at-x.ensures at c.resolves.ensures) c.in_ok-resolves.was)
