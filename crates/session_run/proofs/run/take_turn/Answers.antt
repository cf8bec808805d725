use Rattle.std.proofs.Common.{sym, ap, ◌∙◌, eq-eqb, ne_eqb}
use Rattle.tables.specs.declared.rows.Instruction.{Instruction}
use Rattle.machine.specs.Outcome.{is_call}
use Rattle.session_run.proofs.RunLaws.{turn_end, turn-call, turn_step}
use Rattle.session_run.proofs.run.take_turn.Goals as goal

pub returns-then-instructions-row : goal.returns-then-instructions-row
returns-then-instructions-row c = λ nodes rest taken. turn_end _ _ _ _ _ rest taken c.if-instructions-row.true

pub returns-then-x-eq-CALL : goal.returns-then-x-eq-CALL
returns-then-x-eq-CALL c =
    λ nodes rest taken. turn-call _ _ _ _ _ rest taken c.if-instructions-row.false (ap (λ (x : Instruction). is_call x) (sym c.instruction_at-x.ensures) ∙ eq-eqb _ _ c.if-x-eq-CALL.true)

pub step_row-answer-requires : goal.step_row-answer-requires
step_row-answer-requires c = c.requires

pub returns : goal.returns
returns c =
    λ nodes rest taken. c.turn_of.ensures rest taken _ _
    ∙ turn_step _ _ _ _ _ rest taken c.if-instructions-row.false (ap (λ (x : Instruction). is_call x) (sym c.instruction_at-x.ensures) ∙ ne_eqb _ _ c.if-x-eq-CALL.false) (c.step_row-answer.ensures nodes)
