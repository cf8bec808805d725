use Rattle.std.proofs.Common.{refl}
use Rattle.verdict_table.specs.Place.{block_of}
use Rattle.verdict_table.proofs.blocks.block_of.Goals as goal

pub returns : goal.returns
unfolding block_of
returns c = refl
