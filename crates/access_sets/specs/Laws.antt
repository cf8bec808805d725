-- What is claimed of the access sets. 01, Calls: "Access sets: distinct names, ascending." Proved for every CALL: `access_set` in proofs/SetLaws.antt.
use Rattle.std.specs.Prelude.{ℕ, ◌≡◌, List}
use Rattle.extern_call.specs.Gather.{gather}
use Rattle.extern_call.specs.declared.call.ExternCall.{ExternCall}
use Rattle.access_sets.specs.Set.{has, Ascending, Distinct}
use Rattle.access_sets.specs.Access.{names_at, paired_count, access_of}
use Rattle.access_sets.specs.declared.access.Access.{Access}

pub record AccessSet (parameters arguments : List ℕ) (call : ExternCall) (access : Access) : Type 0 where
  pub distinct : Distinct (access_of parameters arguments call access)
  pub ascending : Ascending (access_of parameters arguments call access)
  -- a name is in the set exactly where an argument that is not dropped adds it
  pub exact : (x : ℕ) → has x (access_of parameters arguments call access)
      ≡ has x (gather (names_at parameters arguments call access) 0 (paired_count call))
