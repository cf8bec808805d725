use Rattle.std.proofs.Common.{◌+◌, ◌∙◌, refl, ap, arith}
use Rattle.tables.specs.Sum.{sum_to}
use Rattle.session_length.specs.Entries.{entries_before, journal_length}
use Rattle.session_length.proofs.EntriesLaws.{entries_turn, entries_most}
use Rattle.session_length.proofs.entries.journal_entries.Goals as goal

pub loop-row-init : goal.loop-row-init
unfolding entries_before sum_to
loop-row-init c = refl

pub overflow_add-entries : goal.overflow_add-entries
overflow_add-entries c =
    let turn = entries_turn c.args.instructions.now c.loop-row.row c.loop-row.invariant c.instruction_at-x.ensures c.entries_for-entries.ensures in
    omega (arith, turn, entries_most c.args.instructions.now (c.loop-row.row + 1), c.requires)

pub loop-row-preserved : goal.loop-row-preserved
loop-row-preserved c = entries_turn c.args.instructions.now c.loop-row.row c.loop-row.invariant c.instruction_at-x.ensures c.entries_for-entries.ensures

pub returns : goal.returns
unfolding journal_length
returns c = c.loop-row.invariant ∙ ap (entries_before c.args.instructions.now) (omega arith)
