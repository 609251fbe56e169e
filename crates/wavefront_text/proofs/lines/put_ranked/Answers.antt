use Rattle.wavefront_text.specs.LineLaws.{put_unranked, put_own_rank}
use native.Mathlib.Omega.{arith}
use Rattle.wavefront.specs.Obj.{vertex_line}
use Rattle.wavefront_text.proofs.lines.put_ranked.Goals as goal

pub returns-then-rank_of-eq0 : goal.returns-then-rank_of-eq0
returns-then-rank_of-eq0 c = record {
  put = put_unranked c.args.out.now
      (vertex_line c.args.points.now c.args.v)
      c.args.ranks.now _ c.args.v
      _ c.rank_of.ensures (omega arith);
  upper_bound = omega arith;
}

pub returns : goal.returns
returns c = record {
  put = put_own_rank c.args.out.now
      _ (vertex_line c.args.points.now
      c.args.v)
      c.args.ranks.now
      _ _ c.args.v
      _ c.rank_of.ensures (λ e. absurd (omega arith))
      c.put_vertex.ensures.put;
  upper_bound = c.put_vertex.ensures.upper_bound;
}
