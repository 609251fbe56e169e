use Rattle.wavefront_entry.specs.RankLaws.{own_start, no_start}
use Rattle.layout.specs.Layout.{face_solid}
use mathlib.Core.Path.{◌∙◌, ap}
use native.Mathlib.Omega.{arith}
use Rattle.wavefront_entry.proofs.ranks.own_start.Goals as goal

pub returns-then-face_solid-s : goal.returns-then-face_solid-s
returns-then-face_solid-s c = own_start c.args.s
    _ _ _ _ (c.face_solid.ensures.0 ∙ ap (face_solid
    c.args.sh
    c.args.links.now)
    c.side_of.ensures.0) (omega arith) c.start_of.ensures.0

pub returns : goal.returns
returns c = no_start c.args.s
    _ _ _ (c.face_solid.ensures.0 ∙ ap (face_solid c.args.sh
    c.args.links.now) c.side_of.ensures.0)
    (λ e. absurd (omega arith))
