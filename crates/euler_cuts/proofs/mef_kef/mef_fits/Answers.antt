use Rattle.std.proofs.Common.{rules}
use Rattle.euler.specs.EdgeOperators.{mef_test}
use Rattle.euler_cuts.proofs.mef_kef.mef_fits.Goals as goal

pub returns-then-w-lt2 : goal.returns-then-w-lt2
unfolding mef_test
returns-then-w-lt2 c = search rules

pub returns-then-h1-h2 : goal.returns-then-h1-h2
unfolding mef_test
returns-then-h1-h2 c = search rules

pub returns-else-h1-h2 : goal.returns-else-h1-h2
unfolding mef_test
returns-else-h1-h2 c = search rules

pub returns-else-is_corner-2 : goal.returns-else-is_corner-2
unfolding mef_test
returns-else-is_corner-2 c = search rules
