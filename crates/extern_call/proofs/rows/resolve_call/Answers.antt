use Rattle.std.proofs.Common.{ℕ, ◌≡◌, ap, rules, Ok, Err}
use Rattle.tables.proofs.Passed.{seen}
use mathlib.Core.Path.{sym, ◌∙◌}
use native.Mathlib.Omega.{arith}
use borrow.Author.Tests.{eq-eqb, ne_eqb, le-leb, lt-leb}
use Rattle.tables.specs.Outcome.{◌>>=◌, ◌>>◌, need}
use Rattle.extern_call.specs.Rows.{resolving, resolve_call}
use Rattle.extern_call.proofs.GatherLaws.{all_stored}
use Rattle.extern_call.proofs.CallLaws.{call-ranges}
use Rattle.extern_call.specs.declared.rows.ResolveError.TheVariants.{Errors}
use Rattle.extern_call.proofs.rows.resolve_call.Goals as goal

pub returns-in_err-call : goal.returns-in_err-call
unfolding resolve_call ◌>>=◌
returns-in_err-call c = rw (seen c.find_call.ensures c.in_err-call.was) (search rules)

pub expected_count-requires : goal.expected_count-requires
expected_count-requires c =
    let r = call-ranges c.requires (seen c.find_call.ensures c.in_ok-call.was) in
    omega (arith, r.parameter_range)

pub returns-then-call-expected_count : goal.returns-then-call-expected_count
unfolding resolve_call ◌>>=◌ ◌>>◌ need
returns-then-call-expected_count c =
    rw (seen c.find_call.ensures c.in_ok-call.was, ne_eqb _ _ (λ e. c.if-call-expected_count.true (e ∙ sym c.expected_count.ensures)))

pub overflow_mul-call : goal.overflow_mul-call
overflow_mul-call c =
    let r = call-ranges c.requires (seen c.find_call.ensures c.in_ok-call.was) in
    record { fits = omega (arith, r.argument_range) }

pub returns-then-rows-call : goal.returns-then-rows-call
unfolding resolve_call ◌>>=◌ ◌>>◌ need
returns-then-rows-call c =
    rw (seen c.find_call.ensures c.in_ok-call.was, eq-eqb _ _ (c.if-call-expected_count.false ∙ c.expected_count.ensures), lt-leb _ _ c.if-rows-call.true)

pub all_resolve-requires : goal.all_resolve-requires
all_resolve-requires c =
    record { ranges = call-ranges c.requires (seen c.find_call.ensures c.in_ok-call.was); count = c.if-call-expected_count.false ∙ c.expected_count.ensures }

pub write_resolved-requires : goal.write_resolved-requires
write_resolved-requires c =
    (record { ranges = call-ranges c.requires (seen c.find_call.ensures c.in_ok-call.was); count = c.if-call-expected_count.false ∙ c.expected_count.ensures }, c.if-rows-call.false)

-- By numbers, so that an edit of the count is refused for the number.
pub returns-then-all_resolve : goal.returns-then-all_resolve
unfolding resolve_call ◌>>=◌ ◌>>◌ need
returns-then-all_resolve c =
    let told : _ ≡ c.write_resolved.result = omega arith in
    ap (λ (count : ℕ). resolving (Ok count) c.write_resolved.new.rows) told
    ∙ rw (seen c.find_call.ensures c.in_ok-call.was, eq-eqb _ _ (c.if-call-expected_count.false ∙ c.expected_count.ensures), le-leb _ _ c.if-rows-call.false, sym c.all_resolve.ensures ∙ c.if-all_resolve.true)
    (all_stored _ _ Ok _ _ _ _ c.write_resolved.ensures)

pub write_errors-requires : goal.write_errors-requires
write_errors-requires c =
    (record { ranges = call-ranges c.requires (seen c.find_call.ensures c.in_ok-call.was); count = c.if-call-expected_count.false ∙ c.expected_count.ensures }, c.if-rows-call.false)

pub returns : goal.returns
unfolding resolve_call ◌>>=◌ ◌>>◌ need
returns c =
    rw (seen c.find_call.ensures c.in_ok-call.was, eq-eqb _ _ (c.if-call-expected_count.false ∙ c.expected_count.ensures), le-leb _ _ c.if-rows-call.false, sym c.all_resolve.ensures ∙ c.if-all_resolve.false)
    (all_stored _ _ (λ count. Err (Errors count)) _ _ _ _ c.write_errors.ensures)
