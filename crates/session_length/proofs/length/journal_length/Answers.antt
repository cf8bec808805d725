use Rattle.std.proofs.Common.{sym, ap, ◌∙◌, Ok, rules}
use Rattle.tables.proofs.Passed.{seen}
use Rattle.loader.proofs.Loaded.{loaded, few-instructions}
use Rattle.session.proofs.Prepared.{counted}
use Rattle.session_open.specs.Open.{tables_verdict}
use Rattle.session_length.specs.Length.{length_tables}
use Rattle.session_length.proofs.length.journal_length.Goals as goal

pub returns-in_err-tables_look : goal.returns-in_err-tables_look
unfolding length_tables tables_verdict
returns-in_err-tables_look c = rw (seen c.tables_look.ensures c.in_err-tables_look.was) (search rules)

pub program_verdict-requires : goal.program_verdict-requires
program_verdict-requires c = (counted _ (seen c.tables_look.ensures c.in_ok-tables_look.was)).loads

pub returns-in_err-program_verdict : goal.returns-in_err-program_verdict
unfolding length_tables tables_verdict
returns-in_err-program_verdict c = rw (seen c.tables_look.ensures c.in_ok-tables_look.was, seen c.program_verdict.ensures c.in_err-program_verdict.was) (search rules)

pub journal_entries-requires : goal.journal_entries-requires
journal_entries-requires c = few-instructions (loaded _ (counted _ (seen c.tables_look.ensures c.in_ok-tables_look.was)).loads)

pub returns : goal.returns
unfolding length_tables tables_verdict
returns c = rw (seen c.tables_look.ensures c.in_ok-tables_look.was, seen c.program_verdict.ensures c.in_ok-program_verdict.was) (ap Ok c.journal_entries.ensures)
