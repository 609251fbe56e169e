use Rattle.euler_holes.specs.HolesLaws.{mfkrh_stays, mfkrh_leaves}
use Rattle.euler_holes.proofs.holes.mfkrh_links.Goals as goal

pub returns-then-s-eq0 : goal.returns-then-s-eq0
returns-then-s-eq0 c = let a = c.args in
    mfkrh_stays a.sh a.links.now a.l a.f a.s c.if-s-eq0.true _
    c.ring_face.ensures

pub returns : goal.returns
returns c = let a = c.args in
    mfkrh_leaves a.sh a.links.now a.l a.f a.s
    c.if-s-eq0.false _
    c.link_faces.ensures _ _ _
    c.ring_face-2.ensures
    c.set_solid_used.ensures
    c.move_shell.ensures
