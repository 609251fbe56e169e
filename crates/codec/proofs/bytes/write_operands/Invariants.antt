use mathlib.Core.Path.{◌≡◌}
use Prim.Native.Nat.{◌+◌, ◌≤◌}
use lib.ListN.{length, drop}
use lib.Seq.{sets}
use Rattle.codec.specs.OperandBytes.{operands_bytes}
use Rattle.codec.proofs.bytes.write_operands.Given as goal

abbrev pub invariant-loop-i : goal.invariant-loop-i
invariant-loop-i l = (length l.kinds ≡ 8) × (length l.numbers ≡ 8)
    × (length l.out ≡ length l.initial.out)
    × (l.p + length (operands_bytes (drop l.i l.kinds) (drop l.i l.numbers))
    ≡ l.at + length (operands_bytes l.kinds l.numbers))
    × (l.at + length (operands_bytes l.kinds l.numbers) ≤ length l.initial.out)
    × (sets l.out l.p (operands_bytes (drop l.i l.kinds) (drop l.i l.numbers))
    ≡ sets l.initial.out l.at (operands_bytes l.kinds l.numbers))
