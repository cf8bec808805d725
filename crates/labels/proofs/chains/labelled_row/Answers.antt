use Rattle.std.proofs.Common.{sym, ◌∙◌, arith}
use Rattle.labels.proofs.ChainsLaws.{chained-below, walk_start, walk_met, walk_next, walk_ends}
use Rattle.labels.proofs.chains.labelled_row.Goals as goal

pub loop-n-init : goal.loop-n-init
loop-n-init c = rw c.from-row.ensures (walk_start _ _ _ _ c.requires.2 _ _ c.bucket-b.ensures)

pub is_chained-requires : goal.is_chained-requires
is_chained-requires c = omega (arith, c.loop-n.invariant.within, c.requires.0)

pub has_label-requires : goal.has_label-requires
has_label-requires c = omega (arith, chained-below _ _ _ _ c.is_chained.ensures c.loop-n-test.true, c.loop-n.invariant.within, c.requires.0)

pub returns-then-has_label : goal.returns-then-has_label
returns-then-has_label c =
    let e = sym c.has_label.ensures ∙ c.if-has_label.true in
    record { n_value = walk_met _ _ _ _ c.requires.2 _ _ c.bucket-b.ensures _ _ c.loop-n.invariant (sym c.is_chained.ensures ∙ c.loop-n-test.true) e; result_value = λ h. e }

pub offset_bounds-links-row : goal.offset_bounds-links-row
offset_bounds-links-row c = record { fits = omega (arith, chained-below _ _ _ _ c.is_chained.ensures c.loop-n-test.true, c.loop-n.invariant.within, c.requires.0, c.requires.1) }

pub bounds-links-row : goal.bounds-links-row
bounds-links-row c = omega (arith, chained-below _ _ _ _ c.is_chained.ensures c.loop-n-test.true, c.loop-n.invariant.within, c.requires.0, c.requires.1, c.requires.2.rows)

pub loop-n-smaller : goal.loop-n-smaller
loop-n-smaller c = chained-below _ _ _ _ c.is_chained.ensures c.loop-n-test.true

pub loop-n-preserved : goal.loop-n-preserved
loop-n-preserved c =
    rw c.from-row-in-loop-n.ensures
    (walk_next _ _ _ _ c.requires.2 _ _ c.bucket-b.ensures _ _ c.loop-n.invariant (sym c.is_chained.ensures ∙ c.loop-n-test.true) (sym c.has_label.ensures ∙ c.if-has_label.false))

pub returns : goal.returns
returns c = record { n_value = walk_ends _ _ _ _ c.requires.2 _ _ c.bucket-b.ensures _ _ c.loop-n.invariant (sym c.is_chained.ensures ∙ c.loop-n-test.false); result_value = λ h. absurd (omega arith) }
