use mathlib.Core.Path.{refl}
use Rattle.session.specs.Position.{position_fits}
use Rattle.session.proofs.position.position_fits.Goals as goal

pub returns : goal.returns
unfolding position_fits
returns c = refl
