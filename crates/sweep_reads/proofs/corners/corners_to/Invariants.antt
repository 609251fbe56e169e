use Prim.Native.Nat.{◌≤◌, ◌*◌}
use mathlib.Core.Path.{◌≡◌}
use Rattle.sweeps.specs.Sweep.{corners_to}
use Rattle.sweep_reads.proofs.corners.corners_to.Given as goal

abbrev pub invariant-loop-l : goal.invariant-loop-l
invariant-loop-l l = (l.sum ≡ corners_to l.sh l.links l.f l.l) × (l.sum ≤ 8192 * l.l)
