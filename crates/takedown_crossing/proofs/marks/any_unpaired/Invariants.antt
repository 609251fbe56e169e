use mathlib.Core.Path.{◌≡◌}
use Prim.Native.Nat.{◌<◌, ◌-◌}
use Rattle.takedown_crossing.specs.Marking.{any_unpaired}
use Rattle.takedown_crossing.proofs.marks.any_unpaired.Given as goal

abbrev pub invariant-loop : goal.invariant-loop
invariant-loop l = (l.k < 65536)
    × (any_unpaired l.sh l.n (l.n - l.counter) l.links l.k l.stop l.marks
    ≡ any_unpaired l.sh l.n l.n l.links l.from l.stop l.marks)
