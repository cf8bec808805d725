use Rattle.std.proofs.Common.{ap, Ok, rules}
use Rattle.tables.proofs.Passed.{seen}
use Rattle.loader.proofs.Loaded.{loaded_nodes}
use Rattle.console.specs.References.{references_table}
use Rattle.console.proofs.references.memory_references.Goals as goal

pub returns-in_err-load_nodes : goal.returns-in_err-load_nodes
unfolding references_table
returns-in_err-load_nodes c = rw (seen c.load_nodes.ensures c.in_err-load_nodes.was) (search rules)

pub next_in-requires : goal.next_in-requires
next_in-requires c = loaded_nodes _ _ _ (seen c.load_nodes.ensures c.in_ok-load_nodes.was)

pub returns : goal.returns
unfolding references_table
returns c = rw (seen c.load_nodes.ensures c.in_ok-load_nodes.was) (ap Ok c.next_in.ensures)
