use mathlib.Core.Path.{◌∙◌}
use Prim.Native.Nat.{◌-◌}
use native.Mathlib.Omega.{arith}
use Rattle.layout.specs.LayoutLaws.{width_bound}
use Rattle.laws.specs.Columns.{store_at}
use Rattle.layout.proofs.cells.put_cell.Goals as goal

pub overflow_mul-width : goal.overflow_mul-width
overflow_mul-width c = omega (
  arith,
  width_bound c.args.width (c.args.n - 1) (omega arith),
)

pub overflow_add-base : goal.overflow_add-base
overflow_add-base c = omega (
  arith,
  width_bound c.args.width (c.args.n - 1) (omega arith),
)

pub overflow_add-base-2 : goal.overflow_add-base-2
overflow_add-base-2 c = omega (
  arith,
  width_bound c.args.width (c.args.n - 1) (omega arith),
)

pub returns : goal.returns
returns c = c.put.ensures ∙ store_at _ _ _ _ _ _ c.if-n-eq0.false
