use Rattle.std.proofs.Common.{ℕ, ◌≤◌, ◌<◌, ◌-◌, ◌+◌, false}
use Rattle.searching.proofs.least.Given as goal

abbrev pub invariant-loop-k : goal.invariant-loop-k
invariant-loop-k g l = (l.low ≤ l.k) × ((j : ℕ) → l.low ≤ j → j < l.k → goal.F-post g l.test j false)

abbrev pub decreases-loop-k : goal.decreases-loop-k
decreases-loop-k g l = l.n + 1 - l.k
