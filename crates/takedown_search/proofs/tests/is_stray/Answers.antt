use Rattle.takedown_search.specs.Asked.{stray_read}
use Rattle.takedown_search.proofs.tests.is_stray.Goals as goal

pub returns : goal.returns
returns c = stray_read c.args.sh c.args.links.now _ _
    c.args.l
    c.loop_face-f.ensures.0 c.face_solid-own.ensures.0 c.is_ring-ring.ensures
