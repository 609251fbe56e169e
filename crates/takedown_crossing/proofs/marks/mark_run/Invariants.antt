use mathlib.Core.Path.{◌≡◌}
use Prim.Native.Nat.{◌<◌, ◌-◌}
use lib.ListN.{length}
use Rattle.takedown_crossing.specs.Marking.{mark_places, mark_run}
use Rattle.takedown_crossing.proofs.marks.mark_run.Given as goal

abbrev pub invariant-loop : goal.invariant-loop
invariant-loop l = (l.k < 65536) × (length l.marks ≡ mark_places)
    × (mark_run l.sh (l.fuel - l.counter) l.links l.k l.stop l.marks
    ≡ mark_run l.sh l.fuel l.links l.from l.stop l.initial.marks)
