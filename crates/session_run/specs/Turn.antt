-- How run takes a step in the code, behind 1, 2, 3, 10, 4 and 19, on the cells alone.
use Rattle.std.specs.Prelude.{ℕ, List, [], length}
use Rattle.std.specs.declared.ops.ControlFlow.{ControlFlow}
use Rattle.std.specs.declared.ops.ControlFlow.TheVariants.{Continue, Break}
use Rattle.tables.specs.Refusal.{foreign_position}
use Rattle.tables.specs.Outcome.{need}
use Rattle.tables.specs.Tables.{Tables}
use Rattle.journal.specs.declared.position.Position.{Position}
use Rattle.control_flow.specs.Next.{next_row}
use Rattle.session.specs.Prepare.{entries_of}
use Rattle.session.specs.Position.{position_fits}
use Rattle.session.specs.declared.answer.Stop.{Stop}
use Rattle.session_forward.specs.Forward.{stepped}
use Rattle.session_forward.specs.Step.{row_look}
use Rattle.session_run.specs.Run.{Step, Rest, Running, stopped, run_by, unless_refused}

-- a forward with no reply, on the cells
abbrev pub cell_step : Tables → Step
cell_step t cells journal p =
    stepped cells journal p (next_row t.regions t.instructions cells p.row) (row_look t cells (entries_of (length journal)) p [])

-- a turn's answer in the code: from a position the run goes on, at a stop it ends
abbrev pub after_turn : Rest → ℕ → List ℕ → List ℕ → ControlFlow (Stop × Position) Position → Running
after_turn rest taken cells journal (Continue p) = rest cells journal p
after_turn rest taken cells journal (Break (stop, p)) = stopped taken stop p cells journal

-- 19, then the run
unfoldable pub run_cells : Tables → List ℕ → List ℕ → Position → ℕ → Running
run_cells t cells journal p allowance =
    unless_refused (need (position_fits t.instructions (entries_of (length journal)) p) foreign_position) p cells journal
    (run_by (cell_step t) t.instructions allowance 0 cells journal p)
