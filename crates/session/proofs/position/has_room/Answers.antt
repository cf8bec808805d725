use mathlib.Core.Path.{refl}
use Rattle.session.proofs.position.has_room.Goals as goal

pub returns : goal.returns
returns c = refl
