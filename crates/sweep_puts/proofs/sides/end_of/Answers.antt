use Rattle.std.proofs.Common.{arith, refl, ◌+◌, ◌*◌}
use Rattle.sweep_puts.specs.SideLaws.{end_last, end_next}
use Rattle.sweep_puts.proofs.sides.end_of.Goals as goal

pub up_of-requires : goal.up_of-requires
up_of-requires c = omega (
  arith,
  c.requires.2.high (2 * c.args.b + (c.args.z + 1)) (omega arith),
)

pub returns-then-j-z : goal.returns-then-j-z
returns-then-j-z c = (
  end_last c.args.edges.now c.args.z
      c.args.b c.args.j _ _ c.if-j-z.true
      refl c.up_of.ensures.0,
  omega arith,
)

pub down_of-requires : goal.down_of-requires
down_of-requires c = omega (
  arith,
  c.requires.2.high (2 * c.args.b + (c.args.j + 1)) (omega arith),
)

pub returns : goal.returns
returns c = (
  end_next c.args.edges.now c.args.z
      c.args.b c.args.j _ _ c.if-j-z.false
      refl c.down_of.ensures.0,
  omega arith,
)
