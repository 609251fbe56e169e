use Rattle.check_items.specs.NameLaws.{loop_names_is}
use Rattle.check_items.proofs.names.loop_names.Goals as goal

pub returns : goal.returns
returns c = loop_names_is _ _ _ _ _ _ _ _ _ c.loop_face-f.ensures.0
    c.loop_first-k.ensures.0
    c.loop_isolated-v.ensures.0 c.face_solid-face.ensures.0
    c.start_of-half.ensures.0 c.vertex_used-vertex.ensures.0
