use mathlib.Core.Path.{◌≡◌}
use lib.ListN.{length}
use Rattle.laws.specs.UnionFind.{SameRoots}
use Rattle.check_shells.specs.Forest.{Forest}
use Rattle.euler_holes.specs.Moves.{sweep_faces, by_root}
use Rattle.euler_holes.proofs.moves.move_shell.Given as goal

abbrev pub invariant-loop-k : goal.invariant-loop-k
invariant-loop-k l = (length l.links ≡ length l.initial.links) × Forest l.parent
    × SameRoots l.initial.parent l.parent
    × (l.links ≡ sweep_faces l.sh l.k (by_root l.sh l.initial.parent l.f l.s) l.initial.links)
