use Rattle.check_items.specs.NameLaws.{face_names_is}
use Rattle.check_items.proofs.names.face_names.Goals as goal

pub returns : goal.returns
returns c = face_names_is _ _ _ _ _ _ _ c.face_solid-s.ensures.0
    c.solid_used-used.ensures.0 c.face_outer.ensures.0 c.loop_face-back.ensures.0
