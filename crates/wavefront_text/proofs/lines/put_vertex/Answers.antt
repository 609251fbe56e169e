use Rattle.wavefront_text.specs.LineLaws.{put_vertex}
use lib.Dec.{lit≤}
use native.Mathlib.Omega.{arith}
use Rattle.wavefront_text.proofs.lines.put_vertex.Goals as goal

pub put_word-y-requires : goal.put_word-y-requires
put_word-y-requires c = (
  omega arith,
  c.requires.1,
  lit≤ tt,
  c.requires.2 0 (lit≤ tt),
)

pub put_word-z-requires : goal.put_word-z-requires
put_word-z-requires c = (
  omega arith,
  c.requires.1,
  lit≤ tt,
  c.requires.2 1 (lit≤ tt),
)

pub put_word-end-requires : goal.put_word-end-requires
put_word-end-requires c = (
  omega arith,
  c.requires.1,
  lit≤ tt,
  c.requires.2 2 (lit≤ tt),
)

pub returns : goal.returns
returns c = record {
  put = put_vertex c.args.out.now
      _ _ _ _ _ _ _ _ _ _ _ c.args.points.now
      c.args.v
      c.put_byte-x.ensures
      c.put_word-y.ensures.put
      c.put_word-z.ensures.put c.put_word-end.ensures.put
      c.put_byte.ensures;
  upper_bound = omega arith;
}
