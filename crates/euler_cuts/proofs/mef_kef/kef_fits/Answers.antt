use Rattle.std.proofs.Common.{rules}
use Rattle.euler.specs.EdgeOperators.{kef_test}
use Rattle.euler_cuts.proofs.mef_kef.kef_fits.Goals as goal

pub returns-then-loops_kept-eq1 : goal.returns-then-loops_kept-eq1
unfolding kef_test
returns-then-loops_kept-eq1 c = search rules

pub returns-else-loops_kept-eq1 : goal.returns-else-loops_kept-eq1
unfolding kef_test
returns-else-loops_kept-eq1 c = search rules
