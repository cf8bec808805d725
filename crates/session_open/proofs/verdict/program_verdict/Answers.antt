use Rattle.std.proofs.Common.{sym, ◌∙◌, rules}
use Rattle.tables.proofs.Passed.{seen}
use Rattle.loader.proofs.Loaded.{loaded}
use Rattle.type_check.proofs.CheckLaws.{loaded_frames}
use Rattle.session_open.specs.Open.{call_look, calls_look, program_look, program_verdict}
use Rattle.session_open.proofs.OpenLaws.{loaded_calls}
use Rattle.session_open.proofs.verdict.program_verdict.Goals as goal

pub check_program-requires : goal.check_program-requires
check_program-requires c = loaded_frames (loaded _ c.requires)

pub returns-in_err-check_program : goal.returns-in_err-check_program
unfolding program_verdict
returns-in_err-check_program c = rw (seen c.check_program.ensures c.in_err-check_program.was) (search rules)

pub program_look-requires : goal.program_look-requires
program_look-requires c = loaded_calls (loaded _ c.requires)

pub returns-in_err-program_look : goal.returns-in_err-program_look
unfolding program_verdict program_look calls_look call_look
returns-in_err-program_look c = rw (seen c.check_program.ensures c.in_ok-check_program.was, seen c.program_look.ensures c.in_err-program_look.was) (search rules)

pub returns : goal.returns
unfolding program_verdict program_look calls_look call_look
returns c = rw (seen c.check_program.ensures c.in_ok-check_program.was, seen c.program_look.ensures c.in_ok-program_look.was)
