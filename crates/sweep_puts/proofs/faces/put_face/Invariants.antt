use Rattle.std.proofs.Common.{◌≡◌, ◌*◌, ◌≤◌, length}
use Rattle.chains.specs.Series.{joined}
use Rattle.sweeps.specs.Sweep.{corners_to, ops_of}
use Rattle.sweep_puts.specs.Laid.{Laid}
use Rattle.sweep_puts.proofs.faces.put_face.Given as goal

abbrev pub invariant-loop-l : goal.invariant-loop-l
invariant-loop-l l = (l.l ≤ l.sh.loops) × (l.place.at ≤ 54 * l.b) × (l.place.room ≤ 54 * l.b)
    × (length l.out ≡ length l.initial.out) × (l.b ≡ corners_to l.sh l.links l.f l.l)
    × Laid (joined 0 l.l (ops_of l.sh l.links l.points l.f l.d)) l.initial.out 0 0 l.out l.place.at l.place.room
