use Rattle.std.proofs.Common.{◌<◌, ◌≤◌, refl, arith, rules, tests}
use Rattle.std.proofs.lemmas.Iterator.{cases_from_all, YieldsList-from_range}
use Rattle.journal.specs.Entries.{entry_at}
use Rattle.journal.proofs.RestoreLaws.{present-looked}
use Rattle.journal.proofs.restore.readable.Goals as goal

pub returns : goal.returns
returns c =
    present-looked _ _ _ _ _
    (cases_from_all _ _ _ (λ e. (entry_at c.args.journal.now e).cell < c.args.cells) (λ e. c.args.cells ≤ (entry_at c.args.journal.now e).cell) c.all.ensures.ran (YieldsList-from_range _ _ c.args.count refl (omega arith))
    (λ x q k. search (rules, tests)) (λ x q k. search (rules, tests)))
