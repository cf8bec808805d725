use mathlib.Core.Path.{sym, ◌∙◌}
use Rattle.tables.specs.Outcome.{◌>>◌, need}
use Rattle.operands.specs.Cells.{read_of}
use Rattle.operands.proofs.cell.read_cell.Goals as goal

pub returns-then-fits : goal.returns-then-fits
unfolding read_of ◌>>◌ need
returns-then-fits c = rw (sym c.fits.ensures ∙ c.if-fits.true)

pub returns : goal.returns
unfolding read_of ◌>>◌ need
returns c = rw (sym c.fits.ensures ∙ c.if-fits.false)
