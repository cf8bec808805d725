use Rattle.std.proofs.Common.{arith, ◌≡◌, refl, ◌∙◌}
use Rattle.access_sets.specs.Access.{paired_count, access_of}
use Rattle.access_sets.proofs.PairedLaws.{paired-below, ranges-paired, names-few}
use Rattle.access_sets.proofs.InsertLaws.{collecting_start, collecting_turn, collecting_ascends}
use Rattle.access_sets.proofs.access.collect.Goals as goal

pub paired_count-i-end-requires : goal.paired_count-i-end-requires
paired_count-i-end-requires c = omega (arith, c.requires.0.parameter_range)

pub loop-i-init : goal.loop-i-init
loop-i-init c = (refl, collecting_start _ _)

pub visit-count-requires : goal.visit-count-requires
visit-count-requires c = let h = paired-below _ _ (rw c.paired_count-i-end.ensures at c.loop-i-test.true) in (ranges-paired _ c.requires.0 (rw c.paired_count-i-end.ensures at c.loop-i-test.true), omega (arith, h.0, c.loop-i.invariant.1.few), collecting_ascends _ _ _ _ _ (omega (arith, h.0)) c.loop-i.invariant.1)

pub loop-i-preserved : goal.loop-i-preserved
loop-i-preserved c = let h = paired-below _ _ (rw c.paired_count-i-end.ensures at c.loop-i-test.true) in (c.visit-count.auto.names ∙ c.loop-i.invariant.0, collecting_turn _ _ _ _ _ _ _ (omega (arith, h.0, c.requires.1)) (names-few c.args.parameters.now c.args.arguments.now c.args.call c.args.access c.loop-i.i) c.loop-i.invariant.1 c.visit-count.ensures)

pub returns : goal.returns
unfolding access_of
returns c = let e : c.loop-i.i ≡ paired_count c.args.call = omega (arith, c.paired_count-i-end.ensures) in rw e at c.loop-i.invariant.1.listed
