use mathlib.Core.Bool.{true}
use mathlib.Core.Path.{◌≡◌, sym, ◌∙◌}
use native.Mathlib.Omega.{arith}
use lib.Dec.{ltb}
use borrow.Author.Tests.{lt-ltb, le-ltb, not-true, not-false}
use Rattle.words.specs.Literal.{literal_fits}
use Rattle.words.proofs.Literal.{literal-fits}
use Rattle.tables.specs.Outcome.{◌>>◌, need}
use Rattle.machine.specs.Families.{put_integer}
use Rattle.machine.proofs.family.put_integer.Goals as goal

pub returns-then-kind-ge-REAL : goal.returns-then-kind-ge-REAL
unfolding put_integer ◌>>◌ need
returns-then-kind-ge-REAL c = rw (le-ltb c.args.kind 3 (omega (arith, c.if-kind-ge-REAL.true)))

pub returns-then-not-fits : goal.returns-then-not-fits
unfolding put_integer ◌>>◌ need
returns-then-not-fits c =
    let ruled : ltb c.args.kind 3 ≡ true = lt-ltb c.args.kind 3 (omega (arith, c.if-kind-ge-REAL.false)) in
    let tested : literal_fits c.args.kind c.args.word ≡ c.fits.result = literal-fits c.args.kind c.args.word (omega (arith, c.if-kind-ge-REAL.false)) c.ranges.word.fits ∙ sym c.fits.ensures in
    rw (ruled, tested ∙ not-true c.fits.result c.if-not-fits.true-raw)

pub returns : goal.returns
unfolding put_integer ◌>>◌ need
returns c =
    let ruled : ltb c.args.kind 3 ≡ true = lt-ltb c.args.kind 3 (omega (arith, c.if-kind-ge-REAL.false)) in
    let tested : literal_fits c.args.kind c.args.word ≡ c.fits.result = literal-fits c.args.kind c.args.word (omega (arith, c.if-kind-ge-REAL.false)) c.ranges.word.fits ∙ sym c.fits.ensures in
    rw (ruled, tested ∙ not-false c.fits.result c.if-not-fits.false-raw)
