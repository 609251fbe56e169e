use mathlib.Core.Path.{◌∙◌}
use native.Mathlib.Omega.{arith}
use Rattle.runs.specs.Run.{state}
use Rattle.takedown.specs.Inversion.{work}
use Rattle.takedown_across.specs.PassingLaws.{passed, passed_still}
use Rattle.takedown_across.proofs.across.pass.Goals as goal

pub shape_of-links : goal.shape_of-links
shape_of-links c = c.links-3-1.given
    ∙ c.links-2-1.given
    ∙ c.links-1.given

pub returns : goal.returns
returns c = (
  passed c.args.sh
      c.args.p _ _ _ _
      c.make_outer-a.ensures.0
      c.move_rings-b.ensures.0 _ _
      c.kef.ensures
      c.act-c.ensures.0,
  passed_still
      c.args.sh
      c.args.p _ (work
      c.args.at.done
      (state c.args.links.now
      c.args.points.now
      c.args.log.now
      c.args.at.start)) _ _
      c.make_outer-a.ensures.0
      c.move_rings-b.ensures.0,
  omega (
    arith,
    c.make_outer-a.ensures.1,
    c.move_rings-b.ensures.1,
    c.act-c.ensures.1,
  ),
)
