use Rattle.euler_counts.specs.CountLaws.{Filled}
use Rattle.euler_counts.proofs.counts.fill_counts.Given as goal

abbrev pub invariant-loop-l : goal.invariant-loop-l
invariant-loop-l l = Filled l.sh l.links l.l l.counts
