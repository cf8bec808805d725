use Rattle.extern_call.proofs.GatherLaws.{none_stored, one_stored}
use Rattle.extern_call.proofs.rows.put_resolved.Goals as goal

pub returns-in_default : goal.returns-in_default
returns-in_default c = rw c.in_default.is (none_stored _ _ _ _)

pub returns : goal.returns
returns c = rw c.in-Ok.is (one_stored _ _ _ _ _ _ (rw c.resolved_row.ensures at c.store.ensures))
