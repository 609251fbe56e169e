use native.Mathlib.Omega.{arith}
use mathlib.Core.Path.{refl, ◌≡◌}
use Prim.Native.Nat.{◌-◌}
use Rattle.euler_effects.specs.Performed.{links_performed, points_performed}
use Rattle.takedown_all.specs.BackLaws.{back_out, back_on}
use Rattle.takedown_all.proofs.back.roll_back.Goals as goal

pub loop-init : goal.loop-init
loop-init c = let e : c.args.n - 0 ≡ c.args.n = omega arith in (refl, refl, rw e)

pub loop-preserved : goal.loop-preserved
loop-preserved c = let f = c.perform.ensures in
    let inv = c.loop.invariant in (
      omega (arith, inv.0),
      omega (arith, inv.1),
      back_on _ _ _ _ inv.2 _ (omega (arith, c.loop-test.true)) _ c.limits_of-limits.ensures _
          c.read_within-read.ensures _ _ (links_performed _ _ _ _ f.0) (points_performed _ _ _ _ _ f.1),
    )

pub returns : goal.returns
returns c = back_out _ _ _ _ c.loop.invariant.2 (omega arith)
