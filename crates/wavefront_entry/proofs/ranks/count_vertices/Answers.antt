use Rattle.wavefront_entry.specs.RankLaws.{is_marked, counted_none, count_none, counted_next, counted_all}
use Rattle.laws.specs.Sums.{count_le}
use native.Mathlib.Omega.{arith}
use mathlib.Core.Path.{◌∙◌}
use Rattle.wavefront_entry.proofs.ranks.count_vertices.Goals as goal

pub loop-v-init : goal.loop-v-init
loop-v-init c = (c.requires.1, count_none c.args.ranks.now, counted_none c.args.ranks.now)

pub number-last-requires : goal.number-last-requires
number-last-requires c = let i = c.loop-v.invariant in
    let b = count_le c.loop-v.v (is_marked c.args.ranks.now) in
    (omega arith, omega (arith, i.1, b), i.2.size ∙ i.0)

pub loop-v-preserved : goal.loop-v-preserved
loop-v-preserved c = let i = c.loop-v.invariant in
    let r = counted_next _ _ _ _ _ _ (omega (arith, i.0)) i.2 i.1 c.number-last.ensures.0
    c.number-last.ensures.1 in
    (i.0, r.1, r.0)

pub returns : goal.returns
returns c = counted_all _ _ _ _ (omega arith) (omega arith) c.loop-v.invariant.2
