use Rattle.std.proofs.Common.{sym, ap, ◌∙◌}
use Rattle.std.specs.Option.{is_some}
use Rattle.tables.proofs.MarksLaws.{unmarked}
use Rattle.tables.proofs.lookup.named_before.Goals as goal

pub returns-else-marks-mark : goal.returns-else-marks-mark
returns-else-marks-mark c = c.if-marks-mark.false ∙ ap is_some (sym (unmarked _ _ _ _ c.requires.2 c.mark.ensures c.if-marks-mark.false))
