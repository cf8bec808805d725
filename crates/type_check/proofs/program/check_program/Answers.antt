use Rattle.std.proofs.Common.{rules, sym, ap, ◌∙◌}
use Rattle.tables.proofs.FirstLaws.{first_hit, first_miss, first-end, first-all}
use Rattle.type_check.specs.Check.{verdict_of, is_error, check_of}
use Rattle.type_check.proofs.program.check_program.Goals as goal

pub loop-row-init : goal.loop-row-init
unfolding check_of
loop-row-init c = first-all _ _ _ _

pub check_row-verdict-requires : goal.check_row-verdict-requires
check_row-verdict-requires c = rw c.instruction_at.ensures (c.requires.row _ (search rules))

pub returns-in-Err : goal.returns-in-Err
returns-in-Err c = sym c.in-Err.is ∙ ((c.check_row-verdict.ensures ∙ ap (verdict_of _ _ _) c.instruction_at.ensures) ∙ (sym (first_hit _ _ _ _ _ c.loop-row-test.true (ap is_error (sym (c.check_row-verdict.ensures ∙ ap (verdict_of _ _ _) c.instruction_at.ensures) ∙ c.in-Err.is))) ∙ c.loop-row.invariant))

pub loop-row-preserved : goal.loop-row-preserved
loop-row-preserved c = sym (first_miss _ _ _ _ _ c.loop-row-test.true (ap is_error (sym (c.check_row-verdict.ensures ∙ ap (verdict_of _ _ _) c.instruction_at.ensures) ∙ c.in_default.is))) ∙ c.loop-row.invariant

pub returns : goal.returns
returns c = sym (first-end _ _ _ _ _ c.loop-row-test.false) ∙ c.loop-row.invariant
