use Rattle.std.proofs.Common.{refl, arith}
use Rattle.takedown_acts.specs.ActLaws.{rings_turn, rings_out}
use Rattle.takedown_acts.proofs.rings.move_rings.Goals as goal

pub loop-i-init : goal.loop-i-init
loop-i-init c = (omega arith, refl)

pub move_ring-at-requires : goal.move_ring-at-requires
move_ring-at-requires c = let r = c.requires in
    (r.0, omega (arith, c.loop-i.invariant.0, r.0.loops, r.1), omega (arith, c.loop-i-test.true, r.0.loops), r.2)

pub loop-i-preserved : goal.loop-i-preserved
loop-i-preserved c = let e = c.move_ring-at.ensures in
    let inv = c.loop-i.invariant in
    let t = c.loop-i-test.true in (
      omega (arith, e.1, inv.0, t),
      rings_turn _ _ _ _ _ _ _ inv.1 (omega (arith, t)) _ e.0 _ (omega (arith, t)),
    )

pub returns : goal.returns
returns c = (
  rings_out _ _ _ _ _ _ _ c.loop-i.invariant.1 (omega (arith, c.loop-i-test.false)),
  omega (arith, c.loop-i.invariant.0, c.requires.0.loops),
)

pub returns-2 : goal.returns-2
returns-2 c = let e = c.move_ring-at.ensures in
    let inv = c.loop-i.invariant in
    let t = c.loop-i-test.true in (
      rings_out _ _ _ _ _ _ _ (rings_turn _ _ _ _ _ _ _ inv.1 (omega (arith, t)) _ e.0 0 (omega (arith, t)))
          (omega arith),
      omega (arith, e.1, inv.0, t, c.requires.0.loops),
    )
