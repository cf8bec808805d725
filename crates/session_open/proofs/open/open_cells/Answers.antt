use Rattle.std.proofs.Common.{sym, ◌∙◌, ◌≡◌, Err, rules}
use Rattle.session_open.specs.Open.{open_cells}
use Rattle.session_open.proofs.open.open_cells.Goals as goal

pub program_verdict-requires : goal.program_verdict-requires
program_verdict-requires c = c.requires.loads

pub returns-in_err-program_verdict : goal.returns-in_err-program_verdict
unfolding open_cells
returns-in_err-program_verdict c =
    let told : c.from_residual.result ≡ Err c.in_err-program_verdict.field-0.0 = search rules in
    rw (sym c.program_verdict.ensures ∙ c.in_err-program_verdict.was, told)

pub zero_cells-requires : goal.zero_cells-requires
zero_cells-requires c = c.requires.layout

pub returns : goal.returns
unfolding open_cells
returns c = rw (sym c.program_verdict.ensures ∙ c.in_ok-program_verdict.was, c.zero_cells.ensures, c.first.ensures)
