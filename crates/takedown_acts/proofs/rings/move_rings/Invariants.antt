use Rattle.std.proofs.Common.{◌≡◌, ◌+◌, ◌-◌, ◌≤◌}
use Rattle.takedown.specs.Inversion.{move_rings}
use Rattle.takedown_acts.specs.Held.{held}
use Rattle.takedown_acts.proofs.rings.move_rings.Given as goal

abbrev pub invariant-loop-i : goal.invariant-loop-i
invariant-loop-i l = (l.at.done + (l.sh.loops + 1 - l.i) ≤ l.fn.at.done + (l.sh.loops + 1 - l.low))
    × (move_rings l.sh (l.sh.loops + 1 - l.i) l.i l.g l.r (held l.at l.links l.points l.log)
    ≡ move_rings l.sh (l.sh.loops + 1 - l.low) l.low l.g l.r (held l.fn.at l.fn.links l.fn.points l.fn.log))
