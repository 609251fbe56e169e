use Rattle.std.proofs.Common.{rules}
use Rattle.euler.specs.EdgeOperators.{mekr_test}
use Rattle.euler_bridges.proofs.kemr_mekr.mekr_fits.Goals as goal

pub returns-then-is_corner : goal.returns-then-is_corner
unfolding mekr_test
returns-then-is_corner c = search rules

pub returns-else-is_corner : goal.returns-else-is_corner
unfolding mekr_test
returns-else-is_corner c = search rules
