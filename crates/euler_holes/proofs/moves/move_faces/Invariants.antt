use mathlib.Core.Path.{◌≡◌}
use lib.Dec.{eqb}
use lib.ListN.{length}
use Rattle.laws.specs.Bools.{pick}
use Rattle.euler_holes.specs.Moves.{sweep_faces}
use Rattle.euler_holes.proofs.moves.move_faces.Given as goal

abbrev pub invariant-loop-k : goal.invariant-loop-k
invariant-loop-k l = (length l.links ≡ length l.initial.links)
    × (l.links ≡ sweep_faces l.sh l.k (λ f old. pick (eqb old l.s) l.t old) l.initial.links)
