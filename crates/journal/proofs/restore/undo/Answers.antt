use Rattle.std.proofs.Common.{ℕ, ◌≡◌, sym, ap, ◌∙◌, ◌-◌, arith}
use Rattle.journal.specs.Cells.{put}
use Rattle.journal.specs.Entries.{entry_at}
use Rattle.journal.specs.Restore.{undone}
use Rattle.journal.proofs.RestoreLaws.{undone-turn, undone-none, lent_at}
use Rattle.journal.proofs.restore.undo.Goals as goal

pub restore_entry-requires : goal.restore_entry-requires
restore_entry-requires c = (omega arith, rw c.loop-entry.auto.cells (lent_at _ _ _ _ _ c.requires.count_value (omega arith) (omega arith)))

-- By numbers, so that an edit of the entry is refused for the number.
pub loop-entry-preserved : goal.loop-entry-preserved
loop-entry-preserved c =
    let same : _ ≡ c.loop-entry.entry - 1 = omega arith in
    ap (undone c.args.journal.now c.args.base (c.loop-entry.entry - 1 - c.args.base)) (c.restore_entry.ensures ∙ ap (λ (entry : ℕ). put c.loop-entry.cells (entry_at c.args.journal.now entry)) same)
    ∙ sym (undone-turn _ _ c.loop-entry.entry _ (omega arith))
    ∙ c.loop-entry.invariant

pub returns : goal.returns
returns c = sym (undone-none _ _ c.loop-entry.entry _ (omega arith)) ∙ c.loop-entry.invariant
