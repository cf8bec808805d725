use mathlib.Core.Bool.{true}
use mathlib.Core.Path.{◌≡◌, sym, ◌∙◌}
use borrow.Author.Tests.{not-true, not-false}
use Rattle.tables.specs.Outcome.{◌>>◌, need}
use Rattle.labels.specs.Labels.{labels_fit}
use Rattle.control_flow.specs.Condition.{conditions_fit}
use Rattle.operators.specs.Convert.{conversions_fit}
use Rattle.session_open.specs.Open.{no_other, program_look}
use Rattle.session_open.proofs.program.program_look.Goals as goal

pub returns-then-not-no_other : goal.returns-then-not-no_other
unfolding program_look ◌>>◌ need
returns-then-not-no_other c = rw (sym c.no_other.ensures ∙ not-true _ c.if-not-no_other.true-raw)

pub labels_fit-requires : goal.labels_fit-requires
labels_fit-requires c = c.requires.few

pub returns-then-not-labels_fit : goal.returns-then-not-labels_fit
unfolding program_look ◌>>◌ need
returns-then-not-labels_fit c =
    let none_other : no_other c.args.instructions.now ≡ true = sym c.no_other.ensures ∙ not-false _ c.if-not-no_other.false-raw in
    rw (none_other, sym c.labels_fit.ensures ∙ not-true _ c.if-not-labels_fit.true-raw)

pub returns-then-not-conditions_fit : goal.returns-then-not-conditions_fit
unfolding program_look ◌>>◌ need
returns-then-not-conditions_fit c =
    let none_other : no_other c.args.instructions.now ≡ true = sym c.no_other.ensures ∙ not-false _ c.if-not-no_other.false-raw in
    let labelled : labels_fit c.args.instructions.now ≡ true = sym c.labels_fit.ensures ∙ not-false _ c.if-not-labels_fit.false-raw in
    rw (none_other, labelled, sym c.conditions_fit.ensures ∙ not-true _ c.if-not-conditions_fit.true-raw)

pub returns-then-not-conversions_fit : goal.returns-then-not-conversions_fit
unfolding program_look ◌>>◌ need
returns-then-not-conversions_fit c =
    let none_other : no_other c.args.instructions.now ≡ true = sym c.no_other.ensures ∙ not-false _ c.if-not-no_other.false-raw in
    let labelled : labels_fit c.args.instructions.now ≡ true = sym c.labels_fit.ensures ∙ not-false _ c.if-not-labels_fit.false-raw in
    let conditioned : conditions_fit c.args.regions.now c.args.instructions.now ≡ true = sym c.conditions_fit.ensures ∙ not-false _ c.if-not-conditions_fit.false-raw in
    rw (none_other, labelled, conditioned, sym c.conversions_fit.ensures ∙ not-true _ c.if-not-conversions_fit.true-raw)

pub returns : goal.returns
unfolding program_look ◌>>◌ need
returns c =
    let none_other : no_other c.args.instructions.now ≡ true = sym c.no_other.ensures ∙ not-false _ c.if-not-no_other.false-raw in
    let labelled : labels_fit c.args.instructions.now ≡ true = sym c.labels_fit.ensures ∙ not-false _ c.if-not-labels_fit.false-raw in
    let conditioned : conditions_fit c.args.regions.now c.args.instructions.now ≡ true = sym c.conditions_fit.ensures ∙ not-false _ c.if-not-conditions_fit.false-raw in
    let converted : conversions_fit c.args.regions.now c.args.instructions.now ≡ true = sym c.conversions_fit.ensures ∙ not-false _ c.if-not-conversions_fit.false-raw in
    rw (none_other, labelled, conditioned, converted) c.calls_look.ensures
