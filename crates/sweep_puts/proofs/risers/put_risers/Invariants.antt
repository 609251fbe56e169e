use Rattle.std.proofs.Common.{◌≡◌, ◌≤◌, ◌<◌, ◌+◌, ◌*◌, length}
use Rattle.chains.specs.Series.{series}
use Rattle.sweeps.specs.Sweep.{corner_of}
use Rattle.sweep_puts.specs.Laid.{Laid}
use Rattle.sweep_puts.specs.RiserLaws.{riser_of}
use Rattle.sweep_puts.proofs.risers.put_risers.Given as goal

abbrev pub invariant-loop-j : goal.invariant-loop-j
invariant-loop-j l = (l.j ≤ l.n) × (l.k < 65536) × (l.behind.at ≤ l.initial.behind.at + 27 * l.j)
    × (l.behind.room ≤ l.initial.behind.room + 27 * l.j) × (length l.out ≡ length l.initial.out)
    × (l.k ≡ corner_of l.sh l.links l.l l.j)
    × Laid (series 0 l.j (riser_of l.sh l.links l.points l.d l.l l.b)) l.initial.out l.initial.behind.at
    l.initial.behind.room l.out
    l.behind.at l.behind.room
