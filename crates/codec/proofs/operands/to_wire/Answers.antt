use mir.Facts.{to_z-of_z}
use native.Mathlib.Omega.{arith}
use Rattle.codec.specs.SignedLaws.{negative, positive}
use Rattle.codec.specs.OperandLaws.{wire_coordinate, wire_negative, wire_plain}
use Rattle.codec.proofs.operands.to_wire.Goals as goal

pub returns-then-kind-eq-COORD : goal.returns-then-kind-eq-COORD
returns-then-kind-eq-COORD c = wire_coordinate _ _ c.if-kind-eq-COORD.true _
    (rw (to_z-of_z c.ranges.a) at c.zigzag.ensures)

pub returns-then-a-lt0 : goal.returns-then-a-lt0
returns-then-a-lt0 c = let z = negative _ c.ranges.a c.if-a-lt0.true in
    wire_negative _ _ c.if-kind-eq-COORD.false _ z.is

pub overflow_cast-result : goal.overflow_cast-result
overflow_cast-result c = let z = positive _ c.ranges.a c.if-a-lt0.false in
    rw z.held (tt, record { fits = omega arith })

pub returns : goal.returns
returns c = let z = positive _ c.ranges.a c.if-a-lt0.false in
    rw z.held (wire_plain _ _ c.if-kind-eq-COORD.false _ z.is)
