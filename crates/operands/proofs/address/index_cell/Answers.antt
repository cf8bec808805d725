use native.Mathlib.Omega.{arith}
use mathlib.Core.Path.{sym, ◌∙◌}
use Rattle.tables.specs.Outcome.{◌>>◌, need}
use Rattle.tables.proofs.CellsLaws.{origin-within}
use Rattle.operands.specs.Address.{indexed_of, address_of}
use Rattle.operands.proofs.AddressLaws.{index_below}
use Rattle.operands.proofs.address.index_cell.Goals as goal

pub overflow_add-result : goal.overflow_add-result
overflow_add-result c =
    omega (arith, c.requires.1.few, origin-within c.args.regions.now c.args.r c.requires.0, index_below c.args.regions.now c.args.r c.args.i (sym c.index_fits.ensures ∙ c.if-index_fits.true))

pub returns-then-index_fits : goal.returns-then-index_fits
unfolding indexed_of address_of ◌>>◌ need
returns-then-index_fits c = rw (sym c.index_fits.ensures ∙ c.if-index_fits.true, c.region_origin.ensures)

pub returns : goal.returns
unfolding indexed_of address_of ◌>>◌ need
returns c = rw (sym c.index_fits.ensures ∙ c.if-index_fits.false)
