use mathlib.Core.Path.{◌≡◌}
use mathlib.Core.Bool.{true}
use Prim.Native.Nat.{◌-◌, ◌≤◌}
use lib.ListN.{length, drop}
use lib.Seq.{sets}
use Rattle.codec.specs.Operands.{filled, wires}
use Rattle.codec.specs.OperandBytes.{operands_bytes}
use Rattle.codec.proofs.bytes.put_operands_before.Given as goal

abbrev pub invariant-loop-i : goal.invariant-loop-i
invariant-loop-i l = (l.i ≤ l.count) × (l.count ≤ 8) × (filled l.count l.kinds ≡ true) × (length l.kinds ≡ 8)
    × (length l.args ≡ 8)
    × (length l.out ≡ length l.initial.out) × (length (operands_bytes l.kinds (wires l.kinds l.args)) ≤ l.end)
    × (l.end ≤ length l.initial.out)
    × (l.p ≡ l.end - length (operands_bytes (drop l.i l.kinds) (drop l.i (wires l.kinds l.args))))
    × (l.out ≡ sets l.initial.out l.p (operands_bytes (drop l.i l.kinds) (drop l.i (wires l.kinds l.args))))
