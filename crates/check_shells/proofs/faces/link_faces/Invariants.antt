use Rattle.check_shells.specs.Shells.{side_as, Joined}
use Rattle.check_shells.proofs.faces.link_faces.Given as goal

abbrev pub invariant-loop-k : goal.invariant-loop-k
invariant-loop-k l = Joined l.sh l.links (side_as l.sh l.links l.l l.t) l.k l.parent
