use Rattle.std.proofs.Common.{◌-◌, ◌≡◌}
use Rattle.session_open.specs.Open.{call_tables, calls_from, calls_look}
use Rattle.session_open.proofs.program.calls_look.Given as goal

abbrev pub invariant-loop-row : goal.invariant-loop-row
invariant-loop-row l = calls_from (call_tables l.regions l.externs l.parameters l.arguments l.instructions) l.row (l.rows - l.row) ≡ calls_look (call_tables l.regions l.externs l.parameters l.arguments l.instructions)
