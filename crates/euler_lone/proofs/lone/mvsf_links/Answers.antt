use Rattle.euler.specs.FaceOperators.{mvsf_links}
use Rattle.euler_lone.proofs.lone.mvsf_links.Goals as goal

pub returns : goal.returns
unfolding mvsf_links
returns c = rw (c.set_vertex_used.ensures, c.put_loop.ensures, c.put_face.ensures, c.set_solid_used.ensures)
