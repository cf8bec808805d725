use Rattle.std.proofs.Common.{rules}
use Rattle.tables.proofs.RowsLaws.{every-from_all}
use Rattle.word_rules.specs.Instruction.{instructions_allowed}
use Rattle.word_rules.proofs.instruction.rows_allowed.Goals as goal

pub returns : goal.returns
unfolding instructions_allowed
returns c = every-from_all _ _ _ _ _ c.all.ensures.ran (λ x q k. search rules) (λ x q k. search rules)
