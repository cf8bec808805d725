use Rattle.std.proofs.Common.{rules}
use Rattle.tables.proofs.RowsLaws.{every-from_all}
use Rattle.extern_call.specs.Call.{all_resolve}
use Rattle.extern_call.proofs.call.all_resolve.Goals as goal

pub returns : goal.returns
unfolding all_resolve
returns c = every-from_all _ _ _ _ _ c.all.ensures.ran (λ x q k. search rules) (λ x q k. search rules)
