use Rattle.std.proofs.Common.{rules, Ok, Err}
use Rattle.tables.proofs.Passed.{seen}
use mathlib.Core.Path.{◌≡◌, sym, ◌∙◌}
use native.Mathlib.Omega.{arith}
use borrow.Author.Tests.{eq-eqb, ne_eqb}
use Rattle.tables.specs.Outcome.{◌>>=◌, ◌>>◌, need}
use Rattle.extern_call.specs.Call.{find_call, expected_count, resolves_call, Ranges}
use Rattle.extern_call.proofs.CallLaws.{call-ranges}
use Rattle.extern_call.proofs.call.resolves.Goals as goal

pub returns-in_err-call : goal.returns-in_err-call
unfolding resolves_call ◌>>=◌
returns-in_err-call c = rw (seen c.find_call.ensures c.in_err-call.was) (search rules)

pub expected_count-requires : goal.expected_count-requires
expected_count-requires c =
    let found : find_call c.args.externs.now c.args.x ≡ Ok c.in_ok-call.call = seen c.find_call.ensures c.in_ok-call.was in
    let ranges : Ranges c.args.parameters.now c.args.arguments.now c.in_ok-call.call = call-ranges c.requires found in
    omega (arith, ranges.parameter_range)

pub returns-then-call-expected_count : goal.returns-then-call-expected_count
unfolding resolves_call ◌>>=◌ ◌>>◌ need
returns-then-call-expected_count c =
    let found : find_call c.args.externs.now c.args.x ≡ Ok c.in_ok-call.call = seen c.find_call.ensures c.in_ok-call.was in
    rw (found, ne_eqb _ _ (λ e. c.if-call-expected_count.true (e ∙ sym c.expected_count.ensures)))

pub all_resolve-requires : goal.all_resolve-requires
all_resolve-requires c =
    let found : find_call c.args.externs.now c.args.x ≡ Ok c.in_ok-call.call = seen c.find_call.ensures c.in_ok-call.was in
    let ranges : Ranges c.args.parameters.now c.args.arguments.now c.in_ok-call.call = call-ranges c.requires found in
    let counted : c.in_ok-call.call.argument_count ≡ expected_count c.in_ok-call.call = c.if-call-expected_count.false ∙ c.expected_count.ensures in
    record { ranges = ranges; count = counted }

pub returns-then-all_resolve : goal.returns-then-all_resolve
unfolding resolves_call ◌>>=◌ ◌>>◌ need
returns-then-all_resolve c =
    let found : find_call c.args.externs.now c.args.x ≡ Ok c.in_ok-call.call = seen c.find_call.ensures c.in_ok-call.was in
    let counted : c.in_ok-call.call.argument_count ≡ expected_count c.in_ok-call.call = c.if-call-expected_count.false ∙ c.expected_count.ensures in
    rw (found, eq-eqb _ _ counted, sym c.all_resolve.ensures ∙ c.if-all_resolve.true)

pub returns : goal.returns
unfolding resolves_call ◌>>=◌ ◌>>◌ need
returns c =
    let found : find_call c.args.externs.now c.args.x ≡ Ok c.in_ok-call.call = seen c.find_call.ensures c.in_ok-call.was in
    let counted : c.in_ok-call.call.argument_count ≡ expected_count c.in_ok-call.call = c.if-call-expected_count.false ∙ c.expected_count.ensures in
    rw (found, eq-eqb _ _ counted, sym c.all_resolve.ensures ∙ c.if-all_resolve.false)
