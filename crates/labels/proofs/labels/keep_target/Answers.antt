use Rattle.std.proofs.Common.{◌≡◌, sym, ap, ◌∙◌}
use Rattle.tables.specs.declared.rows.Instruction.{Instruction}
use Rattle.labels.specs.Labels.{label_at, has_label, label_row}
use Rattle.labels.proofs.LabelsLaws.{label_row_is}
use Rattle.labels.proofs.TargetsLaws.{targets_add}
use Rattle.labels.proofs.labels.keep_target.Goals as goal

pub returns-clause-targets : goal.returns-clause-targets
returns-clause-targets c =
    let here = ap (λ (x : Instruction). has_label c.args.instructions.now x.second_name c.labelled_row-target.result) (sym c.instruction_at-x.ensures) ∙ c.labelled_row-target.ensures.result_value c.if-rows-target.false in
    let target : c.labelled_row-target.result ≡ label_row c.args.instructions.now (label_at c.args.instructions.now c.args.row) = label_row_is _ c.requires.1.distinct _ _ c.if-rows-target.false here in
    λ t. targets_add _ _ _ c.requires.2 c.requires.0 target
