use Rattle.std.proofs.Common.{ap, rules}
use Rattle.tables.proofs.Passed.{seen}
use Rattle.loader.proofs.Loaded.{loaded_nodes}
use Rattle.console.specs.References.{handed_answer, references_list}
use Rattle.console.proofs.references.references.Goals as goal

pub returns-in_err-load_nodes : goal.returns-in_err-load_nodes
unfolding references_list
returns-in_err-load_nodes c = rw (seen c.load_nodes.ensures c.in_err-load_nodes.was) (search rules)

pub references_in-requires : goal.references_in-requires
references_in-requires c = loaded_nodes _ _ _ (seen c.load_nodes.ensures c.in_ok-load_nodes.was)

pub returns : goal.returns
unfolding references_list
returns c =
    rw (seen c.load_nodes.ensures c.in_ok-load_nodes.was) (ap handed_answer c.references_in.ensures)
