use Rattle.std.proofs.Common.{rules}
use Rattle.tables.proofs.RowsLaws.{every-from_all}
use Rattle.session_open.specs.Open.{no_other}
use Rattle.session_open.proofs.program.no_other.Goals as goal

pub returns : goal.returns
unfolding no_other
returns c = every-from_all _ _ _ _ _ c.all.ensures.ran (λ x q k. search rules) (λ x q k. search rules)
