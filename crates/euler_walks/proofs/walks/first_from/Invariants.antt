use Prim.Native.Nat.{◌<◌, ◌-◌}
use mathlib.Core.Path.{◌≡◌}
use Rattle.euler.specs.Surgery.{seek, first_from}
use Rattle.euler_walks.proofs.walks.first_from.Given as goal

abbrev pub invariant-loop-j : goal.invariant-loop-j
invariant-loop-j l = (l.at < 65536) × (l.best < 65536)
    × (seek l.sh (l.k - l.j) l.links l.l l.j l.at l.k l.best ≡ first_from l.sh l.links l.l l.low l.k)
