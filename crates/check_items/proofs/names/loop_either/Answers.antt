use Rattle.check_items.specs.NameLaws.{loop_either_is}
use Rattle.check_items.proofs.names.loop_either.Goals as goal

pub returns : goal.returns
returns c = loop_either_is _ _ _ _ _ _ c.loop_face-f.ensures.0 c.loop_first-k.ensures.0
    c.loop_isolated-v.ensures.0
