use Rattle.std.proofs.Common.{ℕ, ◌+◌, ◌-◌, ◌≡◌, sym, ap, ◌∙◌, arith}
use Rattle.tables.specs.Tables.{Tables, tables_of}
use Rattle.session.specs.declared.answer.Stop.TheVariants.{Allowance}
use Rattle.session_run.specs.Run.{Rest, stopped, run_by}
use Rattle.session_run.specs.Turn.{after_turn, cell_step}
use Rattle.session_run.proofs.RunLaws.{steppable_kept, run-start, run-turn, run_end}
use Rattle.session_run.proofs.run.run_rows.Goals as goal

pub loop-taken-init : goal.loop-taken-init
loop-taken-init c = λ nodes. run-start _ _ _ _ _ _

pub take_turn-turn-requires : goal.take_turn-turn-requires
take_turn-turn-requires c = (steppable_kept c.requires.0 c.loop-taken.auto.cells c.loop-taken.auto.journal, c.requires.1)

-- By numbers, here and below, so that an edit of the count or of the allowance is refused for the number.
pub returns-in-Break : goal.returns-in-Break
returns-in-Break c =
    λ nodes. let t : Tables = tables_of c.args.regions.now c.args.externs.now c.args.parameters.now nodes c.args.arguments.now c.args.instructions.now in
    let rest : Rest = run_by (cell_step t) c.args.instructions.now (c.args.allowance - (c.loop-taken.taken + 1)) (c.loop-taken.taken + 1) in
    let told : _ ≡ c.loop-taken.taken = omega arith in
    ap (λ (taken : ℕ). stopped taken c.in-Break.stop c.in-Break.at c.take_turn-turn.new.cells c.take_turn-turn.new.journal) told
    ∙ ap (after_turn rest c.loop-taken.taken c.take_turn-turn.new.cells c.take_turn-turn.new.journal) (sym c.in-Break.is) ∙ c.take_turn-turn.ensures nodes rest c.loop-taken.taken ∙ sym (run-turn _ _ _ _ _ _ c.loop-taken.taken (omega arith)) ∙ c.loop-taken.invariant nodes

pub loop-taken-preserved : goal.loop-taken-preserved
loop-taken-preserved c =
    λ nodes. let t : Tables = tables_of c.args.regions.now c.args.externs.now c.args.parameters.now nodes c.args.arguments.now c.args.instructions.now in
    let rest : Rest = run_by (cell_step t) c.args.instructions.now (c.args.allowance - (c.loop-taken.taken + 1)) (c.loop-taken.taken + 1) in
    ap (after_turn rest c.loop-taken.taken c.take_turn-turn.new.cells c.take_turn-turn.new.journal) (sym c.in-Continue.is) ∙ c.take_turn-turn.ensures nodes rest c.loop-taken.taken ∙ sym (run-turn _ _ _ _ _ _ c.loop-taken.taken (omega arith)) ∙ c.loop-taken.invariant nodes

pub returns : goal.returns
returns c =
    λ nodes. let e : c.args.allowance ≡ c.loop-taken.taken = omega arith in
    ap (λ (taken : ℕ). stopped taken Allowance c.loop-taken.position c.loop-taken.cells c.loop-taken.journal) e
    ∙ run_end _ _ _ _ _ _ c.loop-taken.taken (omega arith) ∙ c.loop-taken.invariant nodes
