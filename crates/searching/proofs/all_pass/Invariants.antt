use Rattle.std.proofs.Common.{ℕ, ◌≤◌, true}
use Rattle.searching.proofs.all_pass.Given as goal

abbrev pub invariant-loop-k : goal.invariant-loop-k
invariant-loop-k g l = (k : ℕ) → 1 ≤ k → k ≤ l.k → goal.F-post g l.test k true
