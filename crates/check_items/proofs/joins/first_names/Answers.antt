use Rattle.check_items.specs.JoinLaws.{first_names_is}
use Rattle.check_items.proofs.joins.first_names.Goals as goal

pub returns : goal.returns
returns c = first_names_is _ _ _ _ _ c.loop_first-k.ensures.0 c.loop_of-l.ensures.0
