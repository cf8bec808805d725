use Rattle.std.proofs.Common.{refl, ◌∙◌, arith}
use Rattle.journal.proofs.WritingLaws.{writing_start, writing_turn, writing_end}
use Rattle.session_forward.proofs.CallLaws.{replies_start, replies_turn, replies_none}
use Rattle.session_forward.proofs.call_step.write_reply.Goals as goal

pub loop-k-init : goal.loop-k-init
loop-k-init c =
    rw (replies_start c.args.regions.now c.args.parameters.now c.args.arguments.now c.args.call c.args.reply.now) (writing_start _ _ _ _)

pub write_row-requires : goal.write_row-requires
write_row-requires c =
    (record { laid = c.requires.0.layout.laid; wide = c.loop-k.auto.cells ∙ c.requires.0.layout.wide }, c.requires.0.row c.loop-k.k c.loop-k-test.true, omega (arith, c.loop-k.auto.journal))

pub loop-k-preserved : goal.loop-k-preserved
loop-k-preserved c =
    let next = replies_turn c.args.regions.now c.args.parameters.now c.args.arguments.now c.args.call c.args.reply.now _ c.loop-k.k c.loop-k-test.true in
    writing_turn _ _ _ _ _ _ _ _ c.loop-k.invariant _ _ _ _ next c.write_row.ensures.cells_after c.write_row.ensures.journal_after

pub returns : goal.returns
returns c =
    let none = replies_none c.args.regions.now c.args.parameters.now c.args.arguments.now c.args.call c.args.reply.now _ c.loop-k.k c.loop-k-test.false in
    let end = writing_end _ _ _ _ _ _ _ _ c.loop-k.invariant _ _ _ _ none (omega arith) refl c.close.ensures in
    record { cells_after = end.0; journal_after = end.1 }
