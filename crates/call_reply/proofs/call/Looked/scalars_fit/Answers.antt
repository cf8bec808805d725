use Rattle.std.proofs.Common.{rules}
use Rattle.tables.proofs.RowsLaws.{every-from_all}
use Rattle.call_reply.specs.Call.{scalars_fit}
use Rattle.call_reply.proofs.call.Looked.scalars_fit.Goals as goal

pub returns : goal.returns
unfolding scalars_fit
returns c = every-from_all _ _ _ _ _ c.all.ensures.ran (λ x q k. search rules) (λ x q k. search rules)
