use mathlib.Core.Path.{refl}
use native.Mathlib.Omega.{arith}
use Rattle.euler_points.specs.Chosen.{killed_at, killed_kvsf, killed_none}
use Rattle.euler_points.proofs.points.killed_vertex.Goals as goal

pub returns-in-2 : goal.returns-in-2
returns-in-2 c = (
  killed_kvsf _ _ _ _ _ c.in-2.is c.item_at.ensures.0
      (c.lone_solid.ensures.any.vertex),
  c.lone_solid.ensures.any.vertex_small,
)

pub returns-in-4 : goal.returns-in-4
returns-in-4 c = (killed_at _ _ _ 4 _ _ c.in-4.is refl cc, c.start_of.ensures.1)

pub returns-in-12 : goal.returns-in-12
returns-in-12 c = (killed_at _ _ _ 12 _ _ c.in-12.is refl cc, c.start_of-in-12.ensures.1)

pub returns-in_default : goal.returns-in_default
returns-in_default c = let r = c.in_default.in_default-own.rest in
    (killed_none _ _ _ r.0.0.1 r.0.1 r.1, omega arith)
