use Rattle.takedown_search.specs.Sought.{found_most}
use Rattle.takedown_search.proofs.seek.seek.Goals as goal

pub returns : goal.returns
returns g c = (
  (_, c.least.ensures, c.unwrap_or.ensures),
  found_most _ c.least.ensures c.unwrap_or.ensures,
)
