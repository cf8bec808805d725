use Rattle.std.proofs.Common.{refl, sym, ◌∙◌, arith}
use Rattle.std.proofs.lemmas.List.{drop_more, drop_all}
use Rattle.journal.proofs.WritingLaws.{writing_turn, writing_end}
use Rattle.session_forward.proofs.StepLaws.{full, roomy}
use Rattle.session_forward.proofs.plain_step.step_writes.Goals as goal

pub returns-then-not-has_room : goal.returns-then-not-has_room
returns-then-not-has_room c =
    full c.args.cells.now c.args.journal.now c.args.p c.args.next c.args.writes.now _ refl (sym c.has_room.ensures ∙ c.if-not-has_room.true)

pub loop-i-preserved : goal.loop-i-preserved
loop-i-preserved c =
    writing_turn _ _ _ _ _ _ _ _ c.loop-i.invariant _ _ _ _ (drop_more c.args.writes.now c.loop-i.i _ c.loop-i-test.true) c.write_cell.ensures.cells_after c.write_cell.ensures.journal_after

pub returns : goal.returns
returns c =
    let end = writing_end _ _ _ _ _ _ _ _ c.loop-i.invariant _ _ _ _ (drop_all c.loop-i.i c.args.writes.now c.loop-i-test.false) (omega arith) refl c.close.ensures in
    roomy c.args.cells.now c.args.journal.now c.args.p c.args.next c.args.writes.now _ refl (sym c.has_room.ensures ∙ c.if-not-has_room.false) c.advance.ensures end.0 end.1
