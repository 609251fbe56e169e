use mathlib.Core.Path.{◌≡◌}
use Prim.Native.Nat.{◌-◌}
use native.Mathlib.Omega.{arith}
use Rattle.takedown_crossing.specs.Marking.{mark_stop, mark_turn, mark_out, long_mark}
use Rattle.takedown_crossing.proofs.marks.mark_run.Goals as goal

pub loop-init : goal.loop-init
loop-init c = let e : c.args.fuel - 0 ≡ c.args.fuel = omega arith in (omega arith, omega arith, rw e)

pub returns-then-k-stop : goal.returns-then-k-stop
returns-then-k-stop c = mark_stop _ _ _ _ _ _ _ c.loop.invariant.2 (omega arith) c.if-k-stop.true

pub loop-preserved : goal.loop-preserved
loop-preserved c = let inv = c.loop.invariant in
    let e = c.put_mark.ensures in (
      c.next_of-k.ensures.1,
      long_mark c.loop.marks _ _ inv.1 e,
      mark_turn _ _ _ _ _ _ _ inv.2 _ (omega (arith, c.loop-test.true)) c.if-k-stop.false _ e _
          c.next_of-k.ensures.0,
    )

pub returns : goal.returns
returns c = mark_out _ _ _ _ _ _ _ c.loop.invariant.2 (omega arith)
