use Rattle.tables.specs.Cases.{case_of}
use Rattle.tables.proofs.Cases.{other_arm}
use Rattle.session_length.specs.Entries.{entries_by_family, entries_for}
use Rattle.session_length.proofs.entries.entries_for.Goals as goal

pub returns-in-5 : goal.returns-in-5
unfolding entries_for case_of
returns-in-5 c = rw c.in-5.is

pub returns-in-8 : goal.returns-in-8
unfolding entries_for case_of
returns-in-8 c = rw c.in-8.is

pub returns-in-9 : goal.returns-in-9
unfolding entries_for case_of
returns-in-9 c = rw c.in-9.is

pub returns-in-10 : goal.returns-in-10
unfolding entries_for case_of
returns-in-10 c = rw c.in-10.is

pub returns-in_default : goal.returns-in_default
unfolding entries_for
returns-in_default c = other_arm entries_by_family 2 _ c.in_default.in_default-own.rest
