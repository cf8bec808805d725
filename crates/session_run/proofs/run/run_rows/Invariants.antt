use Rattle.std.proofs.Common.{ℕ, ◌-◌, List, ◌≡◌}
use Rattle.tables.specs.Tables.{tables_of}
use Rattle.session_run.specs.Run.{run_by}
use Rattle.session_run.specs.Turn.{cell_step}
use Rattle.session_run.proofs.run.run_rows.Given as goal

abbrev pub invariant-loop-taken : goal.invariant-loop-taken
invariant-loop-taken l =
    (nodes : List ℕ) → let step = cell_step (tables_of l.regions l.externs l.parameters nodes l.arguments l.instructions) in
    run_by step l.instructions (l.allowance - l.taken) l.taken l.cells l.journal l.position ≡ run_by step l.instructions l.allowance 0 l.initial.cells l.initial.journal l.initial.position
