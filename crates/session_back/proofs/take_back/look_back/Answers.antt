use Rattle.std.proofs.Common.{sym, ◌∙◌, arith}
use borrow.Author.Tests.{lt-ltb, le-ltb}
use Rattle.tables.specs.Outcome.{◌>>◌, need}
use Rattle.session.proofs.PositionLaws as position
use Rattle.session_back.specs.Back.{journal_look}
use Rattle.session_back.specs.TakeBack.{take_back_look}
use Rattle.session_back.proofs.take_back.look_back.Goals as goal

pub returns-then-not-position_fits : goal.returns-then-not-position_fits
unfolding take_back_look ◌>>◌ need
returns-then-not-position_fits c = rw (sym c.position_fits.ensures ∙ c.if-not-position_fits.true)

pub returns-then-done-eq0 : goal.returns-then-done-eq0
unfolding take_back_look journal_look ◌>>◌ need
returns-then-done-eq0 c = rw (sym c.position_fits.ensures ∙ c.if-not-position_fits.false, le-ltb 0 c.args.p.done (omega arith))

pub returns-then-used-eq0 : goal.returns-then-used-eq0
unfolding take_back_look journal_look ◌>>◌ need
returns-then-used-eq0 c = rw (sym c.position_fits.ensures ∙ c.if-not-position_fits.false, lt-ltb 0 c.args.p.done (omega arith), le-ltb 0 c.args.p.used (omega arith))

pub changes_at-changes-requires : goal.changes_at-changes-requires
changes_at-changes-requires c = omega (arith, (position.fits _ _ c.args.p (sym c.position_fits.ensures ∙ c.if-not-position_fits.false)).used)

pub returns-then-used-changes : goal.returns-then-used-changes
unfolding take_back_look journal_look ◌>>◌ need
returns-then-used-changes c = rw (
  sym c.position_fits.ensures ∙ c.if-not-position_fits.false,
  lt-ltb 0 c.args.p.done (omega arith),
  lt-ltb 0 c.args.p.used (omega arith),
  le-ltb _ _ (rw c.changes_at-changes.ensures at c.if-used-changes.true),
)

pub readable-requires : goal.readable-requires
readable-requires c = omega (arith, (position.fits _ _ c.args.p (sym c.position_fits.ensures ∙ c.if-not-position_fits.false)).used)

pub returns-then-not-readable : goal.returns-then-not-readable
unfolding take_back_look journal_look ◌>>◌ need
returns-then-not-readable c = rw (
  sym c.position_fits.ensures ∙ c.if-not-position_fits.false,
  lt-ltb 0 c.args.p.done (omega arith),
  lt-ltb 0 c.args.p.used (omega arith),
  lt-ltb _ _ (rw c.changes_at-changes.ensures at c.if-used-changes.false),
  rw c.changes_at-changes.ensures at (sym c.readable.ensures ∙ c.if-not-readable.true),
)

pub row_left_at-requires : goal.row_left_at-requires
row_left_at-requires c = omega (arith, (position.fits _ _ c.args.p (sym c.position_fits.ensures ∙ c.if-not-position_fits.false)).used)

pub returns-then-instructions-row_left_at : goal.returns-then-instructions-row_left_at
unfolding take_back_look journal_look ◌>>◌ need
returns-then-instructions-row_left_at c = rw (
  sym c.position_fits.ensures ∙ c.if-not-position_fits.false,
  lt-ltb 0 c.args.p.done (omega arith),
  lt-ltb 0 c.args.p.used (omega arith),
  lt-ltb _ _ (rw c.changes_at-changes.ensures at c.if-used-changes.false),
  rw c.changes_at-changes.ensures at (sym c.readable.ensures ∙ c.if-not-readable.false),
  le-ltb _ _ (rw c.row_left_at.ensures at c.if-instructions-row_left_at.true),
)

pub returns : goal.returns
unfolding take_back_look journal_look ◌>>◌ need
returns c = rw (
  sym c.position_fits.ensures ∙ c.if-not-position_fits.false,
  lt-ltb 0 c.args.p.done (omega arith),
  lt-ltb 0 c.args.p.used (omega arith),
  lt-ltb _ _ (rw c.changes_at-changes.ensures at c.if-used-changes.false),
  rw c.changes_at-changes.ensures at (sym c.readable.ensures ∙ c.if-not-readable.false),
  lt-ltb _ _ (rw c.row_left_at.ensures at c.if-instructions-row_left_at.false),
  c.changes_at-changes.ensures,
)
