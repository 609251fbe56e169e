use Rattle.takedown_search.specs.Asked.{ring_of_read}
use Rattle.takedown_search.proofs.tests.is_ring_of.Goals as goal

pub returns : goal.returns
returns c = ring_of_read c.args.sh c.args.links.now _
    c.args.l
    c.loop_face-own.ensures.0 c.is_ring-ring.ensures
