use Rattle.type_check.proofs.program.check_row.Goals as goal

pub check_frame-requires : goal.check_frame-requires
check_frame-requires c = c.requires.inside c.in-8.is
