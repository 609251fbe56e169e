use Rattle.takedown_search.specs.Asked.{solid_read}
use Rattle.takedown_search.proofs.tests.of_solid.Goals as goal

pub returns : goal.returns
returns c = solid_read c.args.sh c.args.links.now _
    c.args.k
    c.side_of-f.ensures.0 c.face_solid.ensures.0
