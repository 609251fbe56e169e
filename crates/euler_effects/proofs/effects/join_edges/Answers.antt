use Rattle.euler_effects.specs.Chosen.{jekv_found}
use Rattle.euler_effects.proofs.effects.join_edges.Goals as goal

pub returns : goal.returns
returns c = jekv_found _ _ _ c.next_of-n.ensures.0 c.jekv_links.ensures
