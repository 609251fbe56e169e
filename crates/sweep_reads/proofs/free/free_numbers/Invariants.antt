use Rattle.std.proofs.Common.{◌≡◌, Bool, ℕ, ◌≤◌}
use Rattle.bounds.specs.Bounds.{item_places}
use Rattle.chains.specs.Ranked.{Filled}
use Rattle.sweep_reads.proofs.free.free_numbers.Given as goal

abbrev pub invariant-loop-k : goal.invariant-loop-k
invariant-loop-k g l = (l.count ≤ l.k)
    × ((p : ℕ → Bool) → ((k : ℕ) → 1 ≤ k → k ≤ l.n → (b : Bool) → goal.F-post g l.is_free k b → b ≡ p k)
    → Filled p l.k item_places l.out l.count)
