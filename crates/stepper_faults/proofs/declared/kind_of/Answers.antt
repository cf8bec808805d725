use Rattle.tables.proofs.LookupLaws.{lookup_within}
use Rattle.tables.proofs.Passed.{seen}
use Rattle.stepper_faults.proofs.declared.kind_of.Goals as goal

pub region_at-requires : goal.region_at-requires
region_at-requires c = lookup_within _ _ _ _ (seen c.lookup_region.ensures c.in_ok-r.was)
