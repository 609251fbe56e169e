use Rattle.std.proofs.Common.{◌≡◌, ℕ, ◌<◌, ◌-◌}
use Rattle.takedown_ends.specs.Walks.{least_met}
use Rattle.takedown_ends.proofs.walks.least_met.Given as goal

abbrev pub invariant-loop : goal.invariant-loop
invariant-loop g l = (l.j < 65536)
    × ((key : ℕ → ℕ) → ((i : ℕ) → i < 65536 → (k : ℕ) → goal.F-post g l.key i k → k ≡ key i)
    → least_met key l.sh (l.fuel - l.counter) l.links l.j l.stop l.least
    ≡ least_met key l.sh l.fuel l.links l.from l.stop l.best)
