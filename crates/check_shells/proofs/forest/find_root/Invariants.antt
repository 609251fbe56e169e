use mathlib.Core.Path.{◌≡◌}
use lib.ListN.{get_or}
use Rattle.check_shells.specs.Forest.{Climb}
use Rattle.check_shells.proofs.forest.find_root.Given as goal

abbrev pub invariant-loop-p : goal.invariant-loop-p
invariant-loop-p l = (l.p ≡ get_or l.parent l.k 0) × Climb l.initial.parent l.parent l.x l.k

abbrev pub decreases-loop-p : goal.decreases-loop-p
decreases-loop-p l = l.k
