use Rattle.euler.specs.EdgeOperators.{kev_test}
use Rattle.euler_spurs.proofs.mev_kev.kev_fits.Goals as goal

pub returns : goal.returns
unfolding kev_test
returns c = cc
