use Rattle.std.proofs.Common.{rules}
use Rattle.euler.specs.EdgeOperators.{jekv_test}
use Rattle.euler_splits.proofs.semv_jekv.jekv_fits.Goals as goal

pub returns-then-edge_of : goal.returns-then-edge_of
unfolding jekv_test
returns-then-edge_of c = search rules

pub returns-else-edge_of : goal.returns-else-edge_of
unfolding jekv_test
returns-else-edge_of c = search rules
