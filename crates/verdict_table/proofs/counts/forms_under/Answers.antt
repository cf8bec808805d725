use Rattle.std.proofs.Common.{rules, tests, arith, ◌≡◌, ◌∙◌}
use Rattle.std.proofs.lemmas.Iterator.{YieldsList-from_range}
use Rattle.std.proofs.lemmas.Iterator.Consumers.{count_from_yields_List, YieldsList-from_filter}
use Rattle.verdict_table.specs.Chart.{count_from}
use Rattle.verdict_table.proofs.CountLaws.{is_under, length-is_under}
use Rattle.verdict_table.proofs.counts.forms_under.Goals as goal

-- By numbers, so that an edit of what is made of the count is refused for the number.
pub returns : goal.returns
returns c =
    let counted : c.count.result ≡ count_from c.args.verdict c.args.start c.args.size =
    count_from_yields_List _ _ c.count.ensures.ran
    (YieldsList-from_filter _ (is_under c.args.verdict) (YieldsList-from_range c.args.start _ c.args.size c.filter.ensures.source (omega arith)) c.filter.ensures.closure (λ x b q k. search (rules, tests)))
    ∙ length-is_under c.args.verdict c.args.start c.args.size
    in
    omega (arith, counted)
