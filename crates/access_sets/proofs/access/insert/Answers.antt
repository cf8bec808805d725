use Rattle.std.proofs.lemmas.List.Sorted.{searched}
use Rattle.access_sets.proofs.PlaceLaws.{rises}
use Rattle.access_sets.proofs.InsertLaws.{insert_there, insert_new}
use Rattle.access_sets.proofs.access.insert.Goals as goal

pub returns-in-Ok : goal.returns-in-Ok
returns-in-Ok c = insert_there _ _ _ _ c.requires.0 c.requires.1 (rw c.in-Ok.is at (searched _ _ _ c.binary_search.ensures.position (rises _ c.requires.1)))

pub returns-in-Err : goal.returns-in-Err
returns-in-Err c = insert_new _ _ _ _ c.requires.0 _ (rw c.in-Err.is at (searched _ _ _ c.binary_search.ensures.position (rises _ c.requires.1))) c.put_at.ensures
