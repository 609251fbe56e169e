use native.Mathlib.Omega.{arith}
use Rattle.takedown_acts.specs.ActLaws.{outer_made, outer_kept}
use Rattle.takedown_acts.proofs.rings.make_outer.Goals as goal

pub returns-then-is_ring : goal.returns-then-is_ring
returns-then-is_ring c = (
  outer_made _ _ _ _ _
      c.is_ring.ensures
      c.if-is_ring.true _
      c.rmov.ensures _
      c.act.ensures.0,
  omega (arith, c.act.ensures.1),
)

pub returns : goal.returns
returns c = (outer_kept _ _ _ _ _ c.is_ring.ensures c.if-is_ring.false, omega arith)
