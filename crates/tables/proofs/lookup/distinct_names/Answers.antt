use Rattle.std.proofs.Common.{refl, sym, ap, ◌∙◌, not, arith}
use Rattle.tables.specs.Lookup.{distinct}
use Rattle.tables.proofs.FirstLaws.{every-start, every_stop, every-turn, every-end}
use Rattle.tables.proofs.MarksLaws.{unmarked_rows, marked_row}
use Rattle.tables.proofs.lookup.distinct_names.Goals as goal

pub loop-i-init : goal.loop-i-init
unfolding distinct
loop-i-init c = record { marked = unmarked_rows _ _ _ refl; rest = every-start _ _ }

pub returns-then-named_before : goal.returns-then-named_before
unfolding distinct
returns-then-named_before c = every_stop _ _ _ c.loop-i.invariant.rest (omega arith) (ap not (sym c.named_before.ensures ∙ c.if-named_before.true))

pub loop-i-preserved : goal.loop-i-preserved
unfolding distinct
loop-i-preserved c =
    record {
      marked = rw c.mark.ensures (marked_row _ _ _ _ c.loop-i.invariant.marked);
      rest = every-turn _ _ _ c.loop-i.invariant.rest (omega arith) (ap not (sym c.named_before.ensures ∙ c.if-named_before.false));
    }

pub returns : goal.returns
unfolding distinct
returns c = every-end _ _ _ c.loop-i.invariant.rest (omega arith)
