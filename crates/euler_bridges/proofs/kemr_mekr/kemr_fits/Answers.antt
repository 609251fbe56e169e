use Rattle.euler.specs.EdgeOperators.{kemr_test}
use Rattle.euler_bridges.proofs.kemr_mekr.kemr_fits.Goals as goal

pub returns : goal.returns
unfolding kemr_test
returns c = cc
