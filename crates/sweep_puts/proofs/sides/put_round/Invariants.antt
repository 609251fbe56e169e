use Rattle.std.proofs.Common.{◌≡◌, suc, ◌+◌, ◌*◌, ◌≤◌, length}
use Rattle.chains.specs.Series.{series}
use Rattle.sweeps.specs.Sweep.{side_at}
use Rattle.sweep_puts.specs.Laid.{Laid}
use Rattle.sweep_puts.specs.SideLaws.{names_in}
use Rattle.sweep_puts.proofs.sides.put_round.Given as goal

abbrev pub invariant-loop-j : goal.invariant-loop-j
invariant-loop-j l = (l.j ≤ suc l.z) × (l.behind.at ≤ l.initial.behind.at + 27 * l.j)
    × (l.behind.room ≤ l.initial.behind.room + 27 * l.j) × (length l.out ≡ length l.initial.out)
    × Laid (series 0 l.j (side_at (names_in l.numbers.edges.now l.numbers.faces.now l.numbers.loops.now) l.l l.z l.b))
    l.initial.out l.initial.behind.at l.initial.behind.room l.out
    l.behind.at l.behind.room
