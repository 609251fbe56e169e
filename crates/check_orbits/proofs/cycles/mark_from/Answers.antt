use Rattle.std.proofs.Common.{◌≡◌, ◌+◌, ◌-◌, arith}
use Rattle.check_orbits.specs.CyclesLaws.{walk_stop, walk_out, walk_turn}
use Rattle.check_orbits.specs.LabelsLaws.{long_set}
use Rattle.check_orbits.proofs.cycles.mark_from.Goals as goal

pub returns-then-m-ne0 : goal.returns-then-m-ne0
returns-then-m-ne0 g c = λ f h. walk_stop f _ _ _ _ (c.loop.invariant.2 f h) _ c.mark_at-m.ensures c.if-m-ne0.true

pub loop-preserved : goal.loop-preserved
loop-preserved g c =
    let inv = c.loop.invariant in
    let e = c.put_mark.ensures in
    let n : c.args.fuel - (c.loop.counter + 1) ≡ c.args.fuel - c.loop.counter - 1 = omega arith in (
      c.requires.steps.low _ _ inv.0 c.step-k.ensures,
      long_set c.loop.marks _ _ _ _ inv.1 e,
      λ f h. rw n (walk_turn f _ _ _ _ (inv.2 f h) (omega arith) _ c.mark_at-m.ensures (omega arith) _ e _
          (h _ _ inv.0 c.step-k.ensures)),
    )

pub returns : goal.returns
returns g c = λ f h. walk_out f _ _ _ _ (c.loop.invariant.2 f h) (omega arith)
