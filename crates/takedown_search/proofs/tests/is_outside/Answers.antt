use Rattle.takedown_search.specs.Asked.{outside_read}
use Rattle.takedown_search.proofs.tests.is_outside.Goals as goal

pub returns : goal.returns
returns c = outside_read c.args.sh c.args.links.now _ _
    c.mate_of.ensures.0 c.side_of-there.ensures.0 c.side_of-here.ensures.0
