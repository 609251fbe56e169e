use native.Mathlib.Omega.{arith}
use Rattle.takedown_across.specs.PassingLaws.{across_is}
use Rattle.takedown_across.proofs.across.across.Goals as goal

pub returns : goal.returns
returns c = (
  across_is
      c.args.sh
      _
      c.args.e
      _
      c.passage_of-p.ensures.0 _ _ _ _
      c.pass-q.ensures.0
      c.pass-q.ensures.1 c.across_ends-ends.ensures.0,
  omega (arith, c.pass-q.ensures.2),
  c.across_ends-ends.ensures.1,
)
