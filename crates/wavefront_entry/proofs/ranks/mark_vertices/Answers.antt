use Rattle.wavefront_entry.specs.RankLaws.{marked_none, marked_next, marked_all}
use native.Mathlib.Omega.{arith}
use Rattle.wavefront_entry.proofs.ranks.mark_vertices.Goals as goal

pub loop-k-init : goal.loop-k-init
loop-k-init c = marked_none _ _ _

pub loop-k-preserved : goal.loop-k-preserved
loop-k-preserved c = marked_next _ _ _ _ _ _ _ c.loop-k.invariant c.own_start-v.ensures c.mark.ensures

pub returns : goal.returns
returns c = marked_all _ _ _ _ _ _ (omega arith) (omega arith) c.loop-k.invariant
