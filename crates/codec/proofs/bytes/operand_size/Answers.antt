use native.Mathlib.Omega.{arith}
use mathlib.Core.Path.{sym, ◌∙◌}
use Rattle.numbers.specs.NumberLaws.{groups_size}
use Rattle.codec.specs.WriteLaws.{size_unused, size_number}
use Rattle.codec.proofs.bytes.operand_size.Goals as goal

pub returns-then-kind-eq-NONE : goal.returns-then-kind-eq-NONE
returns-then-kind-eq-NONE c = (sym (size_unused _ _ c.if-kind-eq-NONE.true), omega arith)

pub returns : goal.returns
returns c = (
  c.number_size.ensures ∙ sym (size_number _ _ c.if-kind-eq-NONE.false),
  omega (arith, groups_size c.args.n),
)
