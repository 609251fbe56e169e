use Rattle.wavefront_entry.specs.RankLaws.{MarkedTo}
use Rattle.wavefront_entry.proofs.ranks.mark_vertices.Given as goal

abbrev pub invariant-loop-k : goal.invariant-loop-k
invariant-loop-k l = MarkedTo l.sh l.links l.s l.k l.ranks
