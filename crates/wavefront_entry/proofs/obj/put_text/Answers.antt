use Rattle.wavefront.specs.Obj.{passing_to, concat_map, vertex_line, face_line, own_faces}
use Rattle.text.specs.Put.{then}
use Rattle.layout.specs.Items.{some}
use lib.ListN.{get_or}
use Rattle.wavefront_entry.proofs.obj.put_text.Goals as goal

pub returns : goal.returns
returns c = let a = c.args in
    then _ _ _ _ _ _ (concat_map (vertex_line a.points.now) (passing_to a.sh.vertices
    (λ v. some (get_or a.ranks.now v 0))))
    (concat_map (face_line a.sh a.links.now (λ v. get_or a.ranks.now v 0))
    (own_faces a.sh a.links.now a.s))
    c.put_vertices-at.ensures.put
    c.put_faces.ensures
