use Rattle.std.proofs.Common.{ℕ, ◌≤◌, false}
use Rattle.searching.proofs.one_passes.Given as goal

abbrev pub invariant-loop-k : goal.invariant-loop-k
invariant-loop-k g l = (k : ℕ) → 1 ≤ k → k ≤ l.k → goal.F-post g l.test k false
