use Rattle.std.proofs.Common.{true, false, ◌≡◌, sym, ap, ◌∙◌, arith, eq-eqb, ne_eqb}
use Rattle.tables.specs.Rows.{instruction_at}
use Rattle.tables.specs.declared.rows.Instruction.{Instruction}
use Rattle.labels.specs.Labels.{is_label}
use Rattle.labels.proofs.ChainsLaws.{chains_skip, chains-add}
use Rattle.labels.proofs.labels.chain_row.Goals as goal

pub returns-then-x-ne-LABEL-clause-chains : goal.returns-then-x-ne-LABEL-clause-chains
returns-then-x-ne-LABEL-clause-chains c =
    let no_label : is_label (instruction_at c.args.instructions.now c.args.row) ≡ false = ap (λ (x : Instruction). is_label x) (sym c.instruction_at-x.ensures) ∙ ne_eqb _ _ c.if-x-ne-LABEL.true in
    λ t. chains_skip _ _ _ _ c.requires.2 no_label

pub returns-clause-chains : goal.returns-clause-chains
returns-clause-chains c =
    let is-label : is_label (instruction_at c.args.instructions.now c.args.row) ≡ true = ap (λ (x : Instruction). is_label x) (sym c.instruction_at-x.ensures) ∙ eq-eqb _ _ c.if-x-ne-LABEL.false in
    λ t. rw (c.chain.ensures.heads_after, c.chain.ensures.links_after, c.instruction_at-x.ensures) (chains-add _ _ _ _ c.requires.2 (omega (arith, c.requires.0, c.requires.1)) is-label)
