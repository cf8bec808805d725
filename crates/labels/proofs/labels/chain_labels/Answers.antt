use Rattle.std.proofs.Common.{sym, ◌∙◌, arith}
use Rattle.tables.proofs.FirstLaws.{every-start, every_stop, every-turn, every-end}
use Rattle.labels.specs.Labels.{labels_distinct}
use Rattle.labels.proofs.ChainsLaws.{chains-start}
use Rattle.labels.proofs.labels.chain_labels.Goals as goal

pub loop-row-init : goal.loop-row-init
unfolding labels_distinct
loop-row-init c = record { chains = chains-start _ _ _ c.requires.1 c.requires.2; rest = every-start _ _ }

pub returns-then-not-chain_row-clause-value : goal.returns-then-not-chain_row-clause-value
unfolding labels_distinct
returns-then-not-chain_row-clause-value c = every_stop _ _ _ c.loop-row.invariant.rest (omega arith) (sym c.chain_row.ensures.value ∙ c.if-not-chain_row.true)

pub loop-row-preserved : goal.loop-row-preserved
unfolding labels_distinct
loop-row-preserved c =
    record {
      chains = c.chain_row.ensures.chains c.if-not-chain_row.false;
      rest = every-turn _ _ _ c.loop-row.invariant.rest (omega arith) (sym c.chain_row.ensures.value ∙ c.if-not-chain_row.false);
    }

pub returns-clause-value : goal.returns-clause-value
unfolding labels_distinct
returns-clause-value c = every-end _ _ _ c.loop-row.invariant.rest (omega arith)
