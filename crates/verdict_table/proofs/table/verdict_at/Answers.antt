use Rattle.std.proofs.Common.{refl}
use Rattle.verdict_table.specs.Chart.{chart}
use Rattle.verdict_table.proofs.table.verdict_at.Goals as goal

-- both tables are computed and compared, entry by entry
pub returns : goal.returns
unfolding chart
returns c = refl
