use Rattle.tables.proofs.Passed.{seen}
use Rattle.std.proofs.Common.{sym, ◌∙◌}
use Rattle.tables.proofs.LookupLaws.{region-row}
use Rattle.operands.proofs.AddressLaws.{indexed_within}
use Rattle.operands.proofs.Reaches.{in_cells}
use Rattle.control_flow.proofs.NextLaws.{word-undeclared, word_past, word-there}
use Rattle.control_flow.proofs.next.condition_word.Goals as goal

pub returns-in_default : goal.returns-in_default
returns-in_default c = word-undeclared _ _ _ (sym c.lookup_region.ensures ∙ c.in_default.is)

pub index_cell-requires : goal.index_cell-requires
index_cell-requires c = (region-row _ c.args.x.first_name _ (sym c.lookup_region.ensures ∙ c.in-Some.is), c.requires.laid)

pub returns-in_default-index_cell : goal.returns-in_default-index_cell
returns-in_default-index_cell c = word_past _ _ _ (sym c.lookup_region.ensures ∙ c.in-Some.is) (seen c.index_cell.ensures c.in_default-index_cell.is)

pub word_at-requires : goal.word_at-requires
word_at-requires c =
    in_cells c.requires
    (indexed_within c.requires.laid _ c.args.x.first_index (region-row _ c.args.x.first_name _ (sym c.lookup_region.ensures ∙ c.in-Some.is)) (seen c.index_cell.ensures c.in-Ok.is))

pub returns : goal.returns
returns c = c.word_at.ensures ∙ word-there _ _ _ (sym c.lookup_region.ensures ∙ c.in-Some.is) (seen c.index_cell.ensures c.in-Ok.is)
