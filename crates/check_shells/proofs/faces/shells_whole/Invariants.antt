use Rattle.std.proofs.Common.{◌≡◌, true}
use Rattle.layout.specs.Layout.{side}
use Rattle.laws.specs.Search.{all_to}
use Rattle.check_shells.specs.Shells.{face_whole, Shells}
use Rattle.check_shells.proofs.faces.shells_whole.Given as goal

abbrev pub invariant-loop-k : goal.invariant-loop-k
invariant-loop-k l = Shells l.sh l.links (side l.sh l.links) l.parent
    × (all_to l.k (face_whole l.sh l.links l.leaders) ≡ true)
