use mathlib.Core.Path.{◌≡◌}
use Prim.Native.Nat.{◌+◌, ◌*◌, ◌≤◌}
use lib.ListN.{length, drop}
use Rattle.codec.specs.OperandBytes.{operands_bytes}
use Rattle.codec.proofs.bytes.operands_size.Given as goal

abbrev pub invariant-loop-i : goal.invariant-loop-i
invariant-loop-i l = (length l.kinds ≡ 8) × (length l.numbers ≡ 8) × (l.size ≤ 3 * l.i)
    × (l.size + length (operands_bytes (drop l.i l.kinds) (drop l.i l.numbers))
    ≡ length (operands_bytes l.kinds l.numbers))
