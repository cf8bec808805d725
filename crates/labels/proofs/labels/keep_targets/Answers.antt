use Rattle.std.proofs.Common.{sym, ◌∙◌, arith}
use Rattle.tables.proofs.FirstLaws.{every-start, every_stop, every-turn, every-end}
use Rattle.labels.specs.Labels.{targets_present}
use Rattle.labels.proofs.TargetsLaws.{targets_start}
use Rattle.labels.proofs.labels.keep_targets.Goals as goal

pub loop-row-init : goal.loop-row-init
unfolding targets_present
loop-row-init c = record { targets = targets_start _ _ c.requires.1; rest = every-start _ _ }

pub returns-then-not-keep_target-clause-value : goal.returns-then-not-keep_target-clause-value
unfolding targets_present
returns-then-not-keep_target-clause-value c = every_stop _ _ _ c.loop-row.invariant.rest (omega arith) (sym c.keep_target.ensures.value ∙ c.if-not-keep_target.true)

pub loop-row-preserved : goal.loop-row-preserved
unfolding targets_present
loop-row-preserved c =
    record {
      targets = c.keep_target.ensures.targets c.if-not-keep_target.false;
      rest = every-turn _ _ _ c.loop-row.invariant.rest (omega arith) (sym c.keep_target.ensures.value ∙ c.if-not-keep_target.false);
    }

pub returns-clause-value : goal.returns-clause-value
unfolding targets_present
returns-clause-value c = every-end _ _ _ c.loop-row.invariant.rest (omega arith)
