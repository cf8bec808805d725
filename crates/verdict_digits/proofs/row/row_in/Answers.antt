use Rattle.std.proofs.Common.{rules}
use Rattle.verdict_digits.specs.Rows.{row_in}
use Rattle.verdict_digits.proofs.RowLaws.{first_below, second_below, source-below}
use Rattle.verdict_digits.proofs.row.row_in.Goals as goal

pub operand_word-requires : goal.operand_word-requires
operand_word-requires c = record { undeclared_lt_form_count = search rules; which_lt_form_count = first_below _ _ (search rules) _ _ }

pub operand_word-requires-2 : goal.operand_word-requires-2
operand_word-requires-2 c = record { undeclared_lt_form_count = search rules; which_lt_form_count = second_below _ _ (search rules) _ _ }

pub operand_word-requires-3 : goal.operand_word-requires-3
operand_word-requires-3 c = record { undeclared_lt_form_count = search rules; which_lt_form_count = source-below _ _ (search rules) _ }

pub returns : goal.returns
unfolding row_in
returns c = rw (c.operand_word-3.ensures, c.source_form.ensures, c.operand_word-2.ensures, c.operand_word.ensures)
