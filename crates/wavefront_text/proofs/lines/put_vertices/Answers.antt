use Rattle.wavefront_text.specs.LineLaws.{listed_none, listed_next, listed_all, put_length}
use Rattle.wavefront.specs.Obj.{concat_map, passing_to, vertex_line}
use Rattle.layout.specs.Items.{some}
use lib.ListN.{get_or}
use Prim.Native.Nat.{◌+◌}
use native.Mathlib.Omega.{arith}
use Rattle.wavefront_text.proofs.lines.put_vertices.Goals as goal

pub loop-v-init : goal.loop-v-init
loop-v-init c = (omega arith, listed_none _ _ _ _)

pub put_ranked-at-requires : goal.put_ranked-at-requires
put_ranked-at-requires c = (
  omega arith,
  omega arith,
  c.requires.all_in_range
      (c.loop-v.v + 1) (omega arith) (omega arith),
)

pub loop-v-preserved : goal.loop-v-preserved
loop-v-preserved c = (
  omega arith,
  listed_next _ _ _ _ _ _ (vertex_line c.args.points.now) (λ u. some (get_or c.args.ranks.now u 0)) c.loop-v.v
      c.loop-v.invariant.1 c.put_ranked-at.ensures.put,
)

pub shape_of-out : goal.shape_of-out
shape_of-out c = put_length _ _ _ _ (concat_map (vertex_line c.args.points.now)
    (passing_to c.loop-v.v (λ u. some (get_or c.args.ranks.now u 0))))
    c.loop-v.invariant.1

pub returns : goal.returns
returns c = record {
  put = listed_all _ _ _ _ (vertex_line c.args.points.now)
      (λ u. some (get_or c.args.ranks.now u 0)) c.loop-v.v
      c.args.n (omega arith) (omega arith) c.loop-v.invariant.1;
  upper_bound = omega arith;
}
