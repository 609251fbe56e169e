use Rattle.std.proofs.Common.{arith}
use Rattle.takedown_all.specs.TurnsLaws.{turned_none, turned_some, turns_end, turns_lack, turns_on, turns_out}
use Rattle.takedown_all.proofs.turns.invert_all.Goals as goal

pub returns-then-ends-eq0 : goal.returns-then-ends-eq0
returns-then-ends-eq0 c = turns_end _ _ _ _ c.loop.invariant.2 (omega (arith, c.loop-test.true)) c.if-ends-eq0.true

pub returns-in_default : goal.returns-in_default
returns-in_default c = let t = turned_none _ _ _ _ _ _ _ _ _ _ c.turn.ensures c.in_default.is in
    turns_lack _ _ _ _ c.loop.invariant.2 (omega (arith, c.loop-test.true)) c.if-ends-eq0.false t.0 _ t.1

pub loop-preserved : goal.loop-preserved
loop-preserved c = let t = turned_some _ _ _ _ _ _ _ _ _ _ c.turn.ensures _ c.in-Some.is in
    let inv = c.loop.invariant in (
      omega (arith, t.2, inv.0, c.loop-test.true),
      t.3,
      turns_on _ _ _ _ inv.2 c.if-ends-eq0.false t.0 _ t.1 _ (omega (arith, c.loop-test.true)),
    )

pub returns : goal.returns
returns c = turns_out _ _ _ _ c.loop.invariant.2 (omega (arith, c.loop-test.false))
