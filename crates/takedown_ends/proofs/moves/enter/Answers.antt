use Rattle.std.proofs.Common.{rules}
use Rattle.takedown_search.specs.Sought.{seek_by}
use Rattle.takedown_ends.specs.EndsLaws.{entered_is}
use Rattle.takedown_ends.proofs.moves.enter.Goals as goal

pub returns : goal.returns
returns c = (
  entered_is _ _ _ _ _ _ _ (seek_by _ c.seek-s.ensures.0 (λ k l u b p. search rules)) c.face_in-root.ensures.0
      c.faces_in-faces.ensures.0 c.ends_at.ensures.0,
  c.ends_at.ensures.1,
)
