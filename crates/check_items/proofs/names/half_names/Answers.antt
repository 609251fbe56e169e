use Rattle.check_items.specs.NameLaws.{half_names_is}
use Rattle.check_items.proofs.names.half_names.Goals as goal

pub returns : goal.returns
returns c = half_names_is _ _ _ _ _ _ _ _ _ _ _
    c.start_of-v.ensures.0
    c.vertex_used-vertex.ensures.0
    c.loop_of.ensures.0
    c.loop_face-face.ensures.0 c.next_of.ensures.0
    c.start_of-next.ensures.0 c.prev_of.ensures.0 c.start_of-prev.ensures.0
