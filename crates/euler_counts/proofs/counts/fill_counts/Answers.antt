use native.Mathlib.Omega.{arith}
use Rattle.euler_counts.specs.CountLaws.{filled_none, filled_next, filled_all}
use Rattle.euler_counts.proofs.counts.fill_counts.Goals as goal

pub loop-l-init : goal.loop-l-init
loop-l-init c = filled_none _ _

pub loop-l-preserved : goal.loop-l-preserved
loop-l-preserved c = filled_next _ _ _ _ _ _ (omega arith) c.loop-l.invariant c.loop_face-f.ensures.0
    c.raise_count.ensures

pub returns : goal.returns
returns c = let f = c.loop-l.invariant in
    (filled_all _ _ _ _ f (omega arith) (omega arith), f.size)
