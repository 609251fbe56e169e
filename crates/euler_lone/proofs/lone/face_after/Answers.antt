use Rattle.std.proofs.Common.{rules, ◌∙◌, eqb}
use Rattle.layout.specs.Layout.{face_solid}
use Rattle.searching.specs.SearchingLaws.{least_by}
use Rattle.euler_lone.specs.LoneLaws.{from_here}
use Rattle.euler_lone.proofs.lone.face_after.Goals as goal

pub returns : goal.returns
returns c = let a = c.args in
    c.unwrap_or.ensures
    ∙ least_by (λ g. eqb (face_solid a.sh a.links.now g) a.s) c.least.ensures (λ k l u b p. search rules)
    ∙ from_here a.sh.faces a.f (λ g. eqb (face_solid a.sh a.links.now g) a.s)
