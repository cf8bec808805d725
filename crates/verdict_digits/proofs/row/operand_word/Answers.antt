use Rattle.std.proofs.Common.{eq-eqb, ne_eqb}
use Rattle.verdict_digits.specs.Rows.{operand_word}
use Rattle.verdict_digits.proofs.row.operand_word.Goals as goal

pub returns-then-choices-eq1 : goal.returns-then-choices-eq1
unfolding operand_word
returns-then-choices-eq1 c = rw (eq-eqb _ _ c.if-choices-eq1.true)

pub returns-else-choices-eq1 : goal.returns-else-choices-eq1
unfolding operand_word
returns-else-choices-eq1 c = rw (ne_eqb _ _ c.if-choices-eq1.false)
