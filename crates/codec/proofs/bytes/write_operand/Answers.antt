use native.Mathlib.Omega.{arith}
use mathlib.Core.Path.{refl}
use Rattle.codec.specs.WriteLaws.{bytes_unused, bytes_number, size_number}
use Rattle.codec.proofs.bytes.write_operand.Goals as goal

pub returns-then-kind-eq-NONE : goal.returns-then-kind-eq-NONE
returns-then-kind-eq-NONE c = rw (bytes_unused _ _ c.if-kind-eq-NONE.true) (record {
  value = omega arith;
  out_after = refl;
})

pub write_number-requires : goal.write_number-requires
write_number-requires c = omega (arith, size_number _ c.args.n c.if-kind-eq-NONE.false)

pub returns : goal.returns
returns c = rw (bytes_number _ c.args.n
    c.if-kind-eq-NONE.false) c.write_number.ensures
