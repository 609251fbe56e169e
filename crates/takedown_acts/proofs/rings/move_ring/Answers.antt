use native.Mathlib.Omega.{arith}
use Rattle.takedown_acts.specs.ActLaws.{ring_moved, ring_kept}
use Rattle.runs.specs.Run.{state}
use Rattle.takedown.specs.Inversion.{work}
use Rattle.takedown_acts.proofs.rings.move_ring.Goals as goal

pub returns-then-is_ring_of : goal.returns-then-is_ring_of
returns-then-is_ring_of c = (
  ring_moved _ _ _ _ _ _
      c.is_ring_of.ensures
      c.if-is_ring_of.true _
      c.rmov.ensures _
      c.act.ensures.0,
  omega (arith, c.act.ensures.1),
)

pub returns : goal.returns
returns c = (
  ring_kept c.args.sh
      c.args.i c.args.g
      c.args.r (work
      c.args.at.done
      (state c.args.links.now
      c.args.points.now
      c.args.log.now
      c.args.at.start)) _ c.is_ring_of.ensures c.if-is_ring_of.false,
  omega arith,
)
