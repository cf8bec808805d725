use Rattle.std.proofs.Common.{sym, ap, ◌∙◌, rules}
use Rattle.tables.proofs.FirstLaws.{first-all, first_hit, first_miss, first-end}
use Rattle.tables.proofs.Passed.{seen}
use Rattle.session_open.specs.Open.{is_refused, calls_look}
use Rattle.session_open.proofs.program.calls_look.Goals as goal

pub loop-row-init : goal.loop-row-init
unfolding calls_look
loop-row-init c = first-all _ _ _ _

pub call_look-requires : goal.call_look-requires
call_look-requires c = (search rules, c.requires)

pub returns-in_err-call_look : goal.returns-in_err-call_look
returns-in_err-call_look c =
    let refused = seen c.call_look.ensures c.in_err-call_look.was in
    rw (sym c.loop-row.invariant ∙ first_hit _ _ _ _ _ c.loop-row-test.true (ap is_refused refused), refused) (search rules)

pub loop-row-preserved : goal.loop-row-preserved
loop-row-preserved c = sym (first_miss _ _ _ _ _ c.loop-row-test.true (ap is_refused (seen c.call_look.ensures c.in_ok-call_look.was))) ∙ c.loop-row.invariant

pub returns : goal.returns
returns c = sym (first-end _ _ _ _ _ c.loop-row-test.false) ∙ c.loop-row.invariant
