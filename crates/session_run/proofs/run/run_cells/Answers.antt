use Rattle.std.proofs.Common.{sym, ◌∙◌}
use Rattle.tables.specs.Outcome.{need}
use Rattle.session_run.specs.Turn.{run_cells}
use Rattle.session_run.proofs.run.run_cells.Goals as goal

pub returns-then-not-position_fits : goal.returns-then-not-position_fits
unfolding run_cells need
returns-then-not-position_fits c = λ nodes. rw (sym c.position_fits.ensures ∙ c.if-not-position_fits.true)

pub returns : goal.returns
unfolding run_cells need
returns c = λ nodes. rw (sym c.position_fits.ensures ∙ c.if-not-position_fits.false) (c.run_rows.ensures nodes)
