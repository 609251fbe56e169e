use native.Mathlib.Omega.{arith}
use Rattle.std.proofs.Common.{rules}
use Rattle.takedown_search.specs.Sought.{seek_by}
use Rattle.takedown_across.specs.PassingLaws.{stray_found, stray_past}
use Rattle.takedown_across.proofs.across.stray_from.Goals as goal

pub returns-then-l-ne0 : goal.returns-then-l-ne0
returns-then-l-ne0 c = (
  stray_found c.args.sh _ c.args.e _
      (seek_by _ c.seek-l.ensures.0 (λ k l u b p. search rules)) c.if-l-ne0.true,
  omega (arith, c.seek-l.ensures.1),
)

pub returns : goal.returns
returns c = (
  stray_past c.args.sh _ c.args.e _
      (seek_by _ c.seek-l.ensures.0 (λ k l u b p. search rules)) c.if-l-ne0.false,
  omega arith,
)
