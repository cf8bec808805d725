use Rattle.std.proofs.Common.{sym, ◌∙◌, rules}
use Rattle.tables.specs.Outcome.{◌>>=◌, ◌>>◌, need}
use Rattle.tables.proofs.Passed.{seen}
use Rattle.session.specs.Prepare.{prepared_of}
use Rattle.session.proofs.Prepared.{counted}
use Rattle.session.proofs.prepare.prepare.Goals as goal

pub returns-in_err-cells : goal.returns-in_err-cells
unfolding prepared_of ◌>>=◌
returns-in_err-cells c = rw (seen c.tables_look.ensures c.in_err-cells.was) (search rules)

pub buffers_fit-requires : goal.buffers_fit-requires
buffers_fit-requires c = (counted _ (seen c.tables_look.ensures c.in_ok-cells.was)).few

pub returns-then-not-buffers_fit : goal.returns-then-not-buffers_fit
unfolding prepared_of ◌>>=◌ ◌>>◌ need
returns-then-not-buffers_fit c = rw (seen c.tables_look.ensures c.in_ok-cells.was, sym c.buffers_fit.ensures ∙ c.if-not-buffers_fit.true)

pub returns : goal.returns
unfolding prepared_of ◌>>=◌ ◌>>◌ need
returns c = rw (seen c.tables_look.ensures c.in_ok-cells.was, sym c.buffers_fit.ensures ∙ c.if-not-buffers_fit.false)
