use Prim.Native.Nat.{◌≤◌}
use mathlib.Core.Path.{◌≡◌}
use lib.ListN.{length}
use Rattle.euler.specs.Passed.{Walked}
use Rattle.euler_walks.proofs.walks.relabel_steps.Given as goal

abbrev pub invariant-loop : goal.invariant-loop
invariant-loop l = (l.k ≤ 65536) × (length l.links ≡ length l.initial.links)
    × Walked l.sh l.initial.links l.from l.stop l.l l.counter l.links l.k
