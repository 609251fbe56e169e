use mathlib.Core.Path.{◌∙◌}
use mir.Facts.{to_z-of_z}
use Rattle.layout.specs.PointsLaws.{no_vertex, no_coordinate, coordinate_at}
use Rattle.layout.proofs.points.coordinate.Goals as goal

pub returns-then-v-eq0 : goal.returns-then-v-eq0
returns-then-v-eq0 c = no_vertex _ _ _ c.if-v-eq0.true

pub returns-then-at-points : goal.returns-then-at-points
returns-then-at-points c = to_z-of_z {w = mir.Syntax.w32} (record { sfits = c.result-1.given })
    ∙ coordinate_at _ _ _ c.if-v-eq0.false

pub returns : goal.returns
returns c = no_coordinate _ _ _ c.if-v-eq0.false c.if-at-points.false
