use Rattle.std.proofs.Common.{arith}
use Rattle.sweep_puts.specs.FaceLaws.{part_none, part_all}
use Rattle.sweep_puts.proofs.faces.put_part.Goals as goal

pub returns-then-n-eq0 : goal.returns-then-n-eq0
returns-then-n-eq0 c = part_none c.args.sh c.args.links.now c.args.points.now _ c.args.l c.args.n c.args.b _ _ _
    c.if-n-eq0.true

pub put_loop-requires : goal.put_loop-requires
put_loop-requires c = record {
  l_bound = (
    omega arith,
    omega (arith, c.if-n-eq0.false),
    omega arith,
    omega arith,
    omega arith,
    omega arith,
  );
  named = c.requires.named;
  moving = c.requires.moving;
}

pub returns : goal.returns
returns c = part_all c.args.sh c.args.links.now c.args.points.now _ c.args.l c.args.n c.args.b _ _ _ _ _ _
    c.if-n-eq0.false c.put_loop.ensures
