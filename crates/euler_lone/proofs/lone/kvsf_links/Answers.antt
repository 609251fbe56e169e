use Rattle.euler.specs.FaceOperators.{kvsf_links}
use Rattle.euler_lone.proofs.lone.kvsf_links.Goals as goal

pub returns : goal.returns
unfolding kvsf_links
returns c = rw (c.set_vertex_used.ensures, c.put_loop.ensures, c.put_face.ensures, c.set_solid_used.ensures)
