use Rattle.std.proofs.Common.{sym, ap, ◌∙◌, arith, rules}
use Rattle.tables.specs.declared.rows.Instruction.{Instruction}
use Rattle.verdict_table.specs.Chart.{kind_of}
use Rattle.verdict_digits.specs.Rows.{regions}
use Rattle.verdict_digits.proofs.RowLaws.{charted, worked_out}
use Rattle.verdict_digits.proofs.verdict.verdict.Goals as goal

pub check_row-requires : goal.check_row-requires
check_row-requires c = record { inside = λ e. let h = (charted c.args.place (search rules)).of_family in absurd (omega (arith, e, h, ap (λ (x : Instruction). x.family) c.row_at.ensures)) }

pub returns-in-Ok : goal.returns-in-Ok
unfolding regions
returns-in-Ok c =
    sym (ap kind_of c.in-Ok.is)
    ∙ worked_out c.args.place (search rules) c.row_at.ensures c.check_row.ensures

pub returns-in-Err : goal.returns-in-Err
unfolding regions
returns-in-Err c =
    sym (ap kind_of c.in-Err.is)
    ∙ worked_out c.args.place (search rules) c.row_at.ensures c.check_row.ensures
