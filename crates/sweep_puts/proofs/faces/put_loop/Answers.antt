use Rattle.std.proofs.Common.{arith}
use Rattle.sweep_puts.specs.FaceLaws.{low_of, risers_far, loop_laid}
use Rattle.sweep_puts.proofs.faces.put_loop.Goals as goal

pub put_risers-up-requires : goal.put_risers-up-requires
put_risers-up-requires c = record {
  l_bound = (omega arith, omega arith, omega arith, omega arith, omega arith);
  holds = c.requires.named.edge;
  holds_2 = c.requires.named.vertex;
  moving = c.requires.moving;
}

pub put_sides-requires : goal.put_sides-requires
put_sides-requires c = let f = risers_far c.args.sh c.args.links.now c.args.points.now _ c.args.l c.args.n
    c.args.b _ _ _ _ _ _ c.put_risers-up.ensures in record {
      l_bound = (omega arith, omega arith, low_of c.requires.named.edge (omega arith));
      z_in_bounds = (omega arith, omega arith, omega arith);
    }

pub returns : goal.returns
returns c = loop_laid c.args.sh c.args.links.now c.args.points.now c.args.numbers.edges.now
    c.args.numbers.vertices.now c.args.numbers.faces.now c.args.numbers.loops.now _ c.args.l c.args.n c.args.b
    _ _ _ _ _ _ _ _ _ c.requires.l_bound.1 c.requires.named c.put_risers-up.ensures c.put_sides.ensures
