use Rattle.wavefront_entry.specs.SolidLaws.{one_side, two_sides, more_sides}
use native.Mathlib.Omega.{arith}
use Rattle.wavefront_entry.proofs.solid.three_sides.Goals as goal

pub returns-then-before-k : goal.returns-then-before-k
returns-then-before-k c = let a = c.args in one_side a.sh a.links.now a.k
    _ c.prev_of-before.ensures.0 (omega arith)

pub returns-then-prev_of-k : goal.returns-then-prev_of-k
returns-then-prev_of-k c = let a = c.args in
    two_sides a.sh a.links.now a.k _ c.prev_of-before.ensures.0
    _ c.prev_of.ensures.0 (λ e. absurd (omega arith)) (omega arith)

pub returns : goal.returns
returns c = let a = c.args in
    more_sides a.sh a.links.now a.k _ c.prev_of-before.ensures.0
    _ c.prev_of.ensures.0 (λ e. absurd (omega arith)) (λ e. absurd (omega arith))
