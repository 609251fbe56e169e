use Rattle.euler_points.specs.Chosen.{points_by_lem}
use Rattle.euler_valence.specs.Starts.{less_read}
use Rattle.euler_effects.specs.Performed.{links_steps}
use Rattle.euler_effects.proofs.effects.perform.Goals as goal

pub returns : goal.returns
returns c = let l = less_read _ _ _ _ c.lower_both.ensures c.leaving-t.ensures.0 in (
  links_steps _ _ _ c.raise_starts.ensures l c.apply_links.ensures,
  points_by_lem _ _ _ _ _ _ c.killed_vertex-v.ensures.0 c.apply_points.ensures,
)
