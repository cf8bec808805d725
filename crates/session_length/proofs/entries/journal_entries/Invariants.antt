use Rattle.std.proofs.Common.{◌≡◌}
use Rattle.session_length.specs.Entries.{entries_before}
use Rattle.session_length.proofs.entries.journal_entries.Given as goal

abbrev pub invariant-loop-row : goal.invariant-loop-row
invariant-loop-row l = l.entries ≡ entries_before l.instructions l.row
