use Rattle.std.proofs.Common.{◌≡◌, ◌-◌}
use Rattle.journal.specs.Restore.{undone}
use Rattle.journal.proofs.restore.undo.Given as goal

abbrev pub invariant-loop-entry : goal.invariant-loop-entry
invariant-loop-entry l = undone l.journal l.base (l.entry - l.base) l.cells ≡ undone l.journal l.base l.count l.initial.cells
