use Prim.Native.Nat.{◌+◌, ◌<◌}
use Rattle.sweep_reads.specs.CornerLaws.{Rounding}
use Rattle.sweep_reads.proofs.corners.corners_in.Given as goal

abbrev pub invariant-loop-j : goal.invariant-loop-j
invariant-loop-j l = (l.k < 65536) × Rounding l.sh l.links l.l l.first l.n l.k (l.j + 1)
