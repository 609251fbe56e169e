use Rattle.check_shells.specs.Shells.{joins}
use Rattle.check_shells.proofs.faces.edge_joins.Goals as goal

pub returns : goal.returns
unfolding joins
returns c = cc
