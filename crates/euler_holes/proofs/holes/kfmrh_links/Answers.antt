use Rattle.euler_holes.specs.HolesLaws.{kfmrh_steps}
use Rattle.euler_holes.proofs.holes.kfmrh_links.Goals as goal

pub returns : goal.returns
returns c = let a = c.args in
    kfmrh_steps a.sh a.links.now a.f1 a.f2 _ _ _ _ _
    c.face_outer-l.ensures.0 c.face_solid-s.ensures.0
    c.face_solid-t.ensures.0 c.give_loop.ensures
    c.join_solids.ensures
