use Rattle.takedown_search.specs.Asked.{in_ring_read}
use Rattle.takedown_search.proofs.tests.in_ring.Goals as goal

pub returns : goal.returns
returns c = in_ring_read c.args.sh
    c.args.links.now _ _
    c.of_solid-here.ensures c.loop_of-l.ensures.0
    c.is_ring-ring.ensures c.mate_of.ensures.0 c.loop_of-other.ensures.0
