use Rattle.std.proofs.Common.{rules, tests}
use Rattle.tables.specs.Outcome.{◌>>◌}
use Rattle.tables.proofs.Passed.{seen}
use Rattle.session.specs.Prepare.{tables_look}
use Rattle.session.proofs.prepare.tables_look.Goals as goal

pub returns-in_err-load_tables : goal.returns-in_err-load_tables
unfolding tables_look ◌>>◌
returns-in_err-load_tables c = rw (seen c.load_tables.ensures c.in_err-load_tables.was) (search rules)

-- By search, so that an edit of the refusal is refused for the refusal.
pub returns : goal.returns
unfolding tables_look ◌>>◌
returns c = rw (seen c.load_tables.ensures c.in_ok-load_tables.was) (search (rules, tests))
