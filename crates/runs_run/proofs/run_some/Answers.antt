use Rattle.std.proofs.Common.{◌≡◌, refl, ap, ℕ, ◌+◌, ◌-◌, ◌<◌, List, ℤ, length, arith}
use Rattle.layout.specs.declared.shape.Shape.{Shape}
use Rattle.runs.specs.Run.{State, state, step_is, step_of, Ran, ran, run_from}
use Rattle.runs.specs.RunLaws.{run_end, run_over, run_stop, run_turn}
use Rattle.refusals.specs.UnlessLaws.{refused_some}
use Rattle.runs_run.proofs.run_some.Goals as goal

-- as an operator is done, one fewer is due: from the place behind it on
turned : (sh : Shape) (s : List ℕ) (n at done : ℕ) (t : State) (whole : Ran)
    → run_from (n - done) sh s at done t ≡ whole
    → at < length s → done < n → (next : ℕ) (u : State) → step_is 0 next u ≡ step_of sh t s at
    → run_from (n - (done + 1)) sh s next (done + 1) u ≡ whole
turned sh s n at done t whole rest h m next u e =
    run_turn sh s (n - done) at done t whole rest h (omega (arith, m)) (step_is 0 next u) e refl (n - (done + 1))
    (omega (arith, m))

-- all that were due are done
over : (sh : Shape) (s : List ℕ) (n at done : ℕ) (t : State) (whole : Ran) → run_from (n - done) sh s at done t ≡ whole
    → done ≡ n → ran 0 n at t ≡ whole
over sh s n at done t whole rest e = rw (← e) (run_over sh s (n - done) at done t whole rest (omega (arith, e)))

pub returns-then-at-script : goal.returns-then-at-script
returns-then-at-script c = rw c.ran.ensures (run_end _ _ _ _ _ _ _ c.loop-done.invariant.5 c.if-at-script.true)

pub returns-in-Err : goal.returns-in-Err
returns-in-Err c = rw (c.ran-in-Err.ensures, c.number.ensures) (run_stop _ _ _ _ _ _ _ c.loop-done.invariant.5
    (omega (arith, c.if-at-script.false)) (omega (arith, c.loop-done-test.true)) _ c.in-Err.ensures.start_after
    (refused_some _))

pub loop-done-preserved : goal.loop-done-preserved
loop-done-preserved c = let l = c.loop-done.invariant in
    let r = c.in-Ok.ensures in (
      omega (arith, c.run_step-stepped.auto, l.0),
      omega (arith, c.run_step-stepped.auto, l.1),
      omega (arith, c.run_step-stepped.auto, l.2),
      r.standing_2.0,
      omega (arith, r.standing_2.1, l.4, l.2),
      turned _ _ _ _ _ _ _ l.5 (omega (arith, c.if-at-script.false)) c.loop-done-test.true _ _ r.start_after,
    )

pub returns : goal.returns
returns c = rw c.ran-2.ensures (over _ _ _ _ _ _ _ c.loop-done.invariant.5
    (omega (arith, c.loop-done-test.false, c.loop-done.auto.done-end)))
