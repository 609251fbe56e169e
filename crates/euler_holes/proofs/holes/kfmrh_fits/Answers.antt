use Rattle.std.proofs.Common.{rules}
use Rattle.euler.specs.FaceOperators.{kfmrh_test}
use Rattle.euler_holes.proofs.holes.kfmrh_fits.Goals as goal

pub returns-then-f1-f2 : goal.returns-then-f1-f2
unfolding kfmrh_test
returns-then-f1-f2 c = search rules

pub returns-else-f1-f2 : goal.returns-else-f1-f2
unfolding kfmrh_test
returns-else-f1-f2 c = search rules
