use Rattle.std.proofs.Common.{rules}
use Rattle.verdict_digits.specs.Rows.{row_at}
use Rattle.verdict_digits.proofs.RowLaws.{within_block}
use Rattle.verdict_digits.proofs.row.row_at.Goals as goal

pub block_of-block-requires : goal.block_of-block-requires
block_of-block-requires c = rw c.family_at-family.ensures (within_block c.args.place (search rules)).of_family

pub overflow_sub-place : goal.overflow_sub-place
overflow_sub-place c = rw (c.block_of-block.ensures, c.family_at-family.ensures) (within_block c.args.place (search rules)).start

pub row_in-requires : goal.row_in-requires
row_in-requires c = record { divides = rw (c.block_of-block.ensures, c.family_at-family.ensures) (within_block c.args.place (search rules)).divides; place_lt_form_count = search rules }

pub returns : goal.returns
unfolding row_at
returns c = rw (← c.family_at-family.ensures, ← c.block_of-block.ensures) c.row_in.ensures
