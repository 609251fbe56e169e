-- What scans ask of a table's shape.
use Rattle.std.specs.Prelude.{◌≤◌}
use Rattle.bounds.specs.Bounds.{most_items}
use Rattle.layout.specs.declared.shape.Shape.{Shape}

-- the capacities of a shape are small, so that no number of a scan wraps
pub record Small (sh : Shape) : Type 0 where
  pub solids : sh.solids ≤ most_items
  pub faces : sh.faces ≤ most_items
  pub loops : sh.loops ≤ most_items
  pub edges : sh.edges ≤ most_items
  pub vertices : sh.vertices ≤ most_items
