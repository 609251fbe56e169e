use mathlib.Core.Path.{refl}
use Rattle.check_shells.specs.Shells.{within}
use Rattle.check_shells.proofs.faces.is_within.Goals as goal

pub returns : goal.returns
unfolding within
returns c = refl
