use mathlib.Core.Path.{◌≡◌}
use lib.ListN.{length, take, drop}
use Rattle.codec.specs.OperandBytes.{read_operands}
use Rattle.codec.specs.ReadLaws.{front}
use Rattle.codec.proofs.bytes.read_operands.Given as goal

abbrev pub invariant-loop-i : goal.invariant-loop-i
invariant-loop-i l = (length l.kinds ≡ 8) × (length l.numbers ≡ 8)
    × (front (take l.i l.numbers) (read_operands (drop l.i l.kinds) l.s l.p) ≡ read_operands l.kinds l.s l.at)
