use Rattle.std.proofs.Common.{arith}
use Rattle.machine.proofs.Reaches.{arithmetic_reach, comparison_reach, logic_reach, unary_reach, move_reach, exchange_reach, load_reach, store_reach, conditional_reach, convert_reach}
use Rattle.machine.proofs.family.family_outcome.Goals as goal

pub arithmetic-requires : goal.arithmetic-requires
arithmetic-requires c = arithmetic_reach c.requires c.in-0.is

pub comparison-requires : goal.comparison-requires
comparison-requires c = comparison_reach c.requires c.in-1.is

pub logic-requires : goal.logic-requires
logic-requires c = logic_reach c.requires c.in-2.is

pub unary-requires : goal.unary-requires
unary-requires c = unary_reach c.requires c.in-3.is

pub move_source-requires : goal.move_source-requires
move_source-requires c = move_reach c.requires c.in-4.is

pub exchange-requires : goal.exchange-requires
exchange-requires c = exchange_reach c.requires c.in-5.is

pub load-requires : goal.load-requires
load-requires c = load_reach c.requires c.in-6.is

pub store-requires : goal.store-requires
store-requires c = store_reach c.requires c.in-7.is

pub conditional-requires : goal.conditional-requires
conditional-requires c = conditional_reach c.requires (omega arith) (omega arith)

pub convert-requires : goal.convert-requires
convert-requires c = convert_reach c.requires c.in-16.is
