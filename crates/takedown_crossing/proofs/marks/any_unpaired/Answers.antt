use native.Mathlib.Omega.{arith}
use mathlib.Core.Path.{◌≡◌}
use Prim.Native.Nat.{◌-◌}
use Rattle.takedown_crossing.specs.Marking.{any_stop, any_here, any_turn, any_out}
use Rattle.takedown_crossing.proofs.marks.any_unpaired.Goals as goal

pub loop-init : goal.loop-init
loop-init c = let e : c.args.n - 0 ≡ c.args.n = omega arith in (omega arith, rw e)

pub returns-then-k-stop : goal.returns-then-k-stop
returns-then-k-stop c = any_stop _ _ _ _ _ _ _ _ c.loop.invariant.1 (omega arith) c.if-k-stop.true

pub returns-then-is_unpaired : goal.returns-then-is_unpaired
returns-then-is_unpaired c = any_here _ _ _ _ _ _ _ _ c.loop.invariant.1 (omega arith)
    c.if-k-stop.false _ c.is_unpaired.ensures c.if-is_unpaired.true

pub loop-preserved : goal.loop-preserved
loop-preserved c = (
  omega arith,
  any_turn _ _ _ _ _ _ _ _ c.loop.invariant.1 (omega arith)
      c.if-k-stop.false _ c.is_unpaired.ensures c.if-is_unpaired.false _
      c.next_of-k.ensures.0 _ (omega (arith, c.loop-test.true)),
)

pub returns : goal.returns
returns c = any_out _ _ _ _ _ _ _ _ c.loop.invariant.1 (omega arith)
