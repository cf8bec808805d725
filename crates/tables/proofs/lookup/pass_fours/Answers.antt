use Rattle.std.proofs.Common.{◌≡◌, ◌+◌, ◌*◌, sym, ◌∙◌, arith}
use Rattle.tables.specs.Lookup.{lookup_among}
use Rattle.tables.proofs.FirstLaws.{first_four, first-all}
use Rattle.tables.proofs.Index.{row-start}
use Rattle.tables.proofs.lookup.pass_fours.Goals as goal

pub loop-four-init : goal.loop-four-init
unfolding lookup_among
loop-four-init c = first-all _ _ _ _

pub four_have_name-requires : goal.four_have_name-requires
four_have_name-requires c = (c.requires.0, row-start c.requires.0 c.requires.1 (omega arith))

pub loop-four-preserved : goal.loop-four-preserved
loop-four-preserved c =
    let e : 4 * c.loop-four.four + 4 ≡ 4 * (c.loop-four.four + 1) = omega arith in
    rw (← e) (sym (first_four _ _ _ _ _ (omega arith) (sym c.four_have_name.ensures ∙ c.if-four_have_name.false)) ∙ c.loop-four.invariant)
