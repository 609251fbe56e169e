use Rattle.std.proofs.Common.{arith, refl, ◌+◌, ◌*◌}
use Rattle.sweep_puts.specs.SideLaws.{only_undone, only_made}
use Rattle.sweep_puts.proofs.sides.put_only.Goals as goal

pub down_of-h-requires : goal.down_of-h-requires
down_of-h-requires c = omega (
  arith,
  c.requires.l_bound.2.high (2 * c.args.b) (omega arith),
)

pub kef_size-requires : goal.kef_size-requires
kef_size-requires c = omega (
  arith,
  c.requires.l_bound.2.high
      (2 * c.args.b +
      (c.args.z + 1)) (omega arith),
)

pub put_one-requires : goal.put_one-requires
put_one-requires c = (
  only_undone _ _ _ _ _ _ _ _ (omega (
    arith,
    c.requires.l_bound.2.high
        (2 * c.args.b +
        (c.args.z + 1)) (omega arith),
  ))
      c.mef_of-op.ensures c.kef_size.ensures.0 c.kef_size.ensures.1,
  omega arith,
  omega arith,
  omega arith,
)

pub returns : goal.returns
returns c = only_made
    c.args.numbers.edges.now
    c.args.numbers.faces.now
    c.args.numbers.loops.now
    c.args.l
    c.args.z
    c.args.b _ _
    _ _ _ _ _ _ _
    _ _ _ refl
    c.down_of-h.ensures.0
    refl
    refl
    refl
    c.mef_of-op.ensures c.put_one.ensures
