use Rattle.std.proofs.Common.{arith, refl, ◌+◌, ◌*◌}
use Rattle.sweep_puts.specs.SideLaws.{side_undone, side_made}
use Rattle.sweep_puts.proofs.sides.put_side.Goals as goal

pub down_of-from-requires : goal.down_of-from-requires
down_of-from-requires c = omega (
  arith,
  c.requires.l_bound.3.high (2 * c.args.b + c.args.j) (omega arith),
)

pub kef_size-requires : goal.kef_size-requires
kef_size-requires c = omega (
  arith,
  c.requires.l_bound.3.high
      (2 * c.args.b +
      (c.args.z + 1) +
      c.args.j) (omega arith),
)

pub put_one-requires : goal.put_one-requires
put_one-requires c = (
  side_undone _ _ _ _ _ _ _ _ (omega (
    arith,
    c.requires.l_bound.3.high
        (2 * c.args.b +
        (c.args.z + 1) +
        c.args.j) (omega arith),
  ))
      c.mef_of-op.ensures c.kef_size.ensures.0 c.kef_size.ensures.1,
  omega arith,
  omega arith,
  omega arith,
)

pub returns : goal.returns
returns c = side_made
    c.args.numbers.edges.now
    c.args.numbers.faces.now
    c.args.numbers.loops.now
    c.args.l
    c.args.z
    c.args.b
    c.args.j _ _
    _ _ _ _ _ _ _ _ _ _ _
    refl
    c.down_of-from.ensures.0
    c.end_of-to.ensures.0
    refl
    refl
    refl
    c.mef_of-op.ensures c.put_one.ensures
