use mathlib.Core.Path.{refl}
use Rattle.session.specs.Prepare.{buffers_fit}
use Rattle.session.proofs.prepare.buffers_fit.Goals as goal

pub returns : goal.returns
unfolding buffers_fit
returns c = refl
