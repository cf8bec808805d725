use Rattle.std.proofs.Common.{sym, ◌∙◌, rules}
use Rattle.tables.specs.Outcome.{◌>>=◌, ◌>>◌, need}
use Rattle.tables.proofs.Passed.{seen}
use Rattle.extern_call.proofs.ResolvesLaws.{resolves_ok, resolvable_counted}
use Rattle.call_reply.specs.Call.{call_ready}
use Rattle.call_reply.proofs.call.ready_call.Goals as goal

pub returns-in_err-call : goal.returns-in_err-call
unfolding call_ready ◌>>=◌
returns-in_err-call c = rw (seen c.resolves.ensures c.in_err-call.was) (search rules)

pub scalars_fit-requires : goal.scalars_fit-requires
scalars_fit-requires c = resolvable_counted c.args.regions.now c.args.externs.now c.args.parameters.now c.args.arguments.now c.args.x _ c.requires (resolves_ok c.args.regions.now c.args.externs.now c.args.parameters.now c.args.arguments.now c.args.x _ (seen c.resolves.ensures c.in_ok-call.was))

pub returns-then-not-scalars_fit : goal.returns-then-not-scalars_fit
unfolding call_ready ◌>>=◌ ◌>>◌ need
returns-then-not-scalars_fit c = rw (seen c.resolves.ensures c.in_ok-call.was, sym c.scalars_fit.ensures ∙ c.if-not-scalars_fit.true)

pub returns : goal.returns
unfolding call_ready ◌>>=◌ ◌>>◌ need
returns c = rw (seen c.resolves.ensures c.in_ok-call.was, sym c.scalars_fit.ensures ∙ c.if-not-scalars_fit.false)
