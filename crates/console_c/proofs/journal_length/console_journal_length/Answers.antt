use Rattle.std.proofs.Common.{sym, ◌∙◌}
use Rattle.console_c.specs.JournalLength.{console_journal_length}
use Rattle.console_c.proofs.journal_length.console_journal_length.Goals as goal

pub returns-in-Ok : goal.returns-in-Ok
unfolding console_journal_length
returns-in-Ok c = rw (sym c.journal_length-answer.ensures ∙ c.in-Ok.is)

pub returns-in-Refused : goal.returns-in-Refused
unfolding console_journal_length
returns-in-Refused c = rw (sym c.journal_length-answer.ensures ∙ c.in-Err.is, c.in-Refused.is, c.number.ensures)

pub returns-in-Type : goal.returns-in-Type
unfolding console_journal_length
returns-in-Type c = rw (sym c.journal_length-answer.ensures ∙ c.in-Err.is, c.in-Type.is, c.write_error.ensures, c.number-in-Type.ensures)
