use Rattle.searching.specs.Searching.{Counted}
use Rattle.searching.proofs.count.Given as goal

abbrev pub invariant-loop-k : goal.invariant-loop-k
invariant-loop-k g l = Counted (goal.F-post g l.test) l.k l.total
