use Rattle.takedown_ends.specs.EndsLaws.{across_still, across_moved}
use Rattle.takedown_ends.proofs.moves.across_ends.Goals as goal

pub returns-then-still : goal.returns-then-still
returns-then-still c = (
  across_still c.args.e _ _ _ c.saturating_sub-faces.ensures _
      c.if-still.true _ c.ends_at.ensures.0,
  c.ends_at.ensures.1,
)

pub returns : goal.returns
returns c = (
  across_moved c.args.e _ _ _ c.saturating_sub-faces.ensures _
      c.if-still.false _ c.ends_at-2.ensures.0,
  c.ends_at-2.ensures.1,
)
