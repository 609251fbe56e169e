use Rattle.std.proofs.Common.{◌≡◌, refl, ◌+◌, ◌-◌, arith}
use Rattle.laws.specs.Marks.{mark_to}
use Rattle.check_orbits.specs.CyclesLaws.{reps_turn}
use Rattle.check_orbits.proofs.cycles.mark_all.Goals as goal

pub loop-l-init : goal.loop-l-init
unfolding mark_to
loop-l-init g c = (c.requires.labels_le.1, omega arith, λ f h. refl)

pub loop-l-preserved : goal.loop-l-preserved
loop-l-preserved g c =
    let n : c.loop-l.l + 1 - 1 ≡ c.loop-l.l - 1 + 1 = omega arith in
    let m : c.loop-l.l - 1 + 1 ≡ c.loop-l.l = omega arith in (
      c.mark_rep.array_long,
      omega arith,
      λ f h. rw n (reps_turn f _ _ _ _ _ (c.loop-l.invariant.2 f h) _ _ (rw m) (c.mark_rep.ensures f h)),
    )

pub returns-2 : goal.returns-2
returns-2 g c = λ f h.
    let n : c.args.labels ≡ c.loop-l.l - 1 + 1 = omega arith in
    let m : c.loop-l.l - 1 + 1 ≡ c.loop-l.l = omega arith in
    rw n (reps_turn f _ _ _ _ _ (c.loop-l.invariant.2 f h) _ _ (rw m) (c.mark_rep.ensures f h))
