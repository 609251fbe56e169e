use Rattle.takedown_search.specs.Asked.{spur_read}
use Rattle.takedown_search.proofs.tests.is_spur.Goals as goal

pub returns : goal.returns
returns c = spur_read c.args.sh c.args.links.now _ _
    c.of_solid-here.ensures c.next_of-next.ensures.0 c.mate_of-m.ensures.0
