use Rattle.tables.proofs.Passed.{seen}
use Rattle.tables.specs.Outcome.{◌>>=◌}
use Rattle.call_reply.specs.Call.{call_outcome}
use Rattle.session_forward.specs.Forward.{stepped}
use Rattle.session_forward.specs.Step.{row_leaves}
use Rattle.session_forward.proofs.CallLaws.{judged_replying}
use Rattle.session_forward.proofs.call_step.call_step.Goals as goal

pub judge_call-requires : goal.judge_call-requires
judge_call-requires c = c.requires.1

pub returns-in-Err : goal.returns-in-Err
unfolding row_leaves stepped call_outcome ◌>>=◌
returns-in-Err c = rw (seen c.judge_call.ensures c.in-Err.is)

pub reply_step-requires : goal.reply_step-requires
reply_step-requires c = (judged_replying c.requires.0 c.requires.1 (seen c.judge_call.ensures c.in-Ok.is), c.requires.2)

pub returns-in-Ok : goal.returns-in-Ok
unfolding call_outcome ◌>>=◌
returns-in-Ok c = rw (seen c.judge_call.ensures c.in-Ok.is) c.reply_step.ensures
