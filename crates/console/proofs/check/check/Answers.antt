use Rattle.std.proofs.Common.{rules}
use Rattle.tables.proofs.Passed.{seen}
use Rattle.loader.proofs.Loaded.{loaded}
use Rattle.console.specs.Check.{check_tables}
use Rattle.type_check.proofs.CheckLaws.{loaded_frames}
use Rattle.console.proofs.check.check.Goals as goal

pub returns-in_err-load_tables : goal.returns-in_err-load_tables
unfolding check_tables
returns-in_err-load_tables c = rw (seen c.load_tables.ensures c.in_err-load_tables.was) (search rules)

pub check_program-requires : goal.check_program-requires
check_program-requires c = loaded_frames (loaded _ (seen c.load_tables.ensures c.in_ok-load_tables.was))

pub returns-in_err-check_program : goal.returns-in_err-check_program
unfolding check_tables
returns-in_err-check_program c = rw (seen c.load_tables.ensures c.in_ok-load_tables.was, seen c.check_program.ensures c.in_err-check_program.was) (search rules)

pub returns : goal.returns
unfolding check_tables
returns c = rw (seen c.load_tables.ensures c.in_ok-load_tables.was, seen c.check_program.ensures c.in_ok-check_program.was)
