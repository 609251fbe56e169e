use mathlib.Core.Path.{◌≡◌}
use Prim.Native.Nat.{◌+◌, ◌-◌, ◌*◌, ◌≤◌}
use Rattle.runs.specs.Run.{state}
use Rattle.takedown.specs.Inversion.{turns, begin}
use Rattle.takedown.specs.Swift.{entered, swift_by}
use Rattle.takedown_ends.specs.InWords.{InWords}
use Rattle.takedown_plans.specs.Plans.{swift_is}
use Rattle.takedown_acts.specs.Held.{held}
use Rattle.takedown_all.proofs.turns.invert_all.Given as goal

abbrev pub invariant-loop : goal.invariant-loop
invariant-loop l = (l.at.done + 4099 * (l.turns - l.counter) ≤ 40000000) × (InWords l.ends)
    × (swift_by (l.turns - l.counter) l.sh (swift_is (held l.at l.links l.points l.log) l.ends)
    ≡ swift_by (turns l.sh) l.sh
    (entered l.sh 1 (begin (state l.initial.links l.initial.points l.initial.log l.start))))
