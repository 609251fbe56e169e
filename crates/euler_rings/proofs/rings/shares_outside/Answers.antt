use Rattle.std.proofs.Common.{arith, ap, ◌∙◌, eqb}
use Rattle.layout.specs.Layout.{side}
use Rattle.euler_rings.specs.RingsLaws.{shares_there}
use Rattle.euler_rings.proofs.rings.shares_outside.Goals as goal

pub returns-then-loop_face : goal.returns-then-loop_face
returns-then-loop_face c = let a = c.args in let x = a.links.now in
    ap (λ n. eqb n a.f) (c.side_of.ensures.0 ∙ ap (side a.sh x) c.mate_of.ensures.0)
    ∙ shares_there a.sh x a.l a.f a.k c.loop_of-owner.ensures.0 (omega arith) (omega arith) (grind arith)
