use Rattle.std.proofs.Common.{rules, sym, ◌∙◌}
use borrow.Author.Tests.{not-true, not-false}
use Rattle.tables.proofs.RowsLaws.{every-from_all}
use Rattle.call_reply.specs.Call.{reply_fits}
use Rattle.call_reply.proofs.call.Looked.reply_fits.Goals as goal

pub returns-then-not-reply_length_fits : goal.returns-then-not-reply_length_fits
unfolding reply_fits
returns-then-not-reply_length_fits c = rw (sym c.reply_length_fits.ensures ∙ not-true _ c.if-not-reply_length_fits.true-raw)

pub returns : goal.returns
unfolding reply_fits
returns c =
    rw (sym c.reply_length_fits.ensures ∙ not-false _ c.if-not-reply_length_fits.false-raw)
    (every-from_all _ _ _ _ _ c.all.ensures.ran (λ x q k. search rules) (λ x q k. search rules))
