use Rattle.std.proofs.Common.{◌+◌, ltb, ◌∙◌, rules, tests}
use Rattle.tables.proofs.RowsLaws.{row-from_find}
use Rattle.verdict_table.specs.Place.{block_of}
use Rattle.verdict_digits.specs.Rows.{family_at}
use Rattle.verdict_digits.proofs.row.family_at.Goals as goal

pub returns : goal.returns
unfolding family_at
returns c =
    c.unwrap_or.ensures
    ∙ row-from_find (λ f. ltb c.args.place (block_of (f + 1)).start) 7 7 _ _ _ c.find.ensures.ran (λ x q k. search (rules, tests)) (λ x q k. search (rules, tests))
