use lib.ListN.{length}
use mathlib.Core.Path.{◌≡◌}
use Prim.Native.Nat.{◌-◌}
use Rattle.runs.specs.Run.{state}
use Rattle.takedown.specs.Swift.{undone}
use Rattle.takedown_all.proofs.back.roll_back.Given as goal

abbrev pub invariant-loop : goal.invariant-loop
invariant-loop l = (length l.links ≡ length l.initial.links) × (length l.points ≡ length l.initial.points)
    × (undone (l.n - l.counter) l.sh (state l.links l.points l.log l.at)
    ≡ undone l.n l.sh (state l.initial.links l.initial.points l.log l.start))
