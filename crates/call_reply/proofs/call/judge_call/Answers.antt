use Rattle.std.proofs.Common.{sym, ◌∙◌, rules}
use Rattle.tables.specs.Outcome.{◌>>=◌, ◌>>◌, need}
use Rattle.tables.proofs.Passed.{seen}
use Rattle.extern_call.proofs.ResolvesLaws.{resolvable_counted}
use Rattle.call_reply.proofs.ReplyLaws.{ready_ok}
use Rattle.call_reply.specs.Call.{call_judged}
use Rattle.call_reply.proofs.call.judge_call.Goals as goal

pub returns-in_err-call : goal.returns-in_err-call
unfolding call_judged ◌>>=◌
returns-in_err-call c = rw (seen c.ready_call.ensures c.in_err-call.was) (search rules)

pub reply_fits-requires : goal.reply_fits-requires
reply_fits-requires c = resolvable_counted c.args.regions.now c.args.externs.now c.args.parameters.now c.args.arguments.now c.args.x _ c.requires (ready_ok c.args.regions.now c.args.externs.now c.args.parameters.now c.args.arguments.now c.args.x _ (seen c.ready_call.ensures c.in_ok-call.was)).0

pub returns-then-not-reply_fits : goal.returns-then-not-reply_fits
unfolding call_judged ◌>>=◌ ◌>>◌ need
returns-then-not-reply_fits c = rw (seen c.ready_call.ensures c.in_ok-call.was, sym c.reply_fits.ensures ∙ c.if-not-reply_fits.true)

pub returns : goal.returns
unfolding call_judged ◌>>=◌ ◌>>◌ need
returns c = rw (seen c.ready_call.ensures c.in_ok-call.was, sym c.reply_fits.ensures ∙ c.if-not-reply_fits.false)
