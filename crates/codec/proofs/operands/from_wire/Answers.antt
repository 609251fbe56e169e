use mir.Facts.{to_z-of_z}
use mir.Syntax.{w32}
use mir.ValLaws.{to_z_pos}
use native.Mathlib.Omega.{arith}
use Rattle.codec.specs.OperandLaws.{unwire_coordinate, unwire_plain}
use Rattle.codec.proofs.operands.from_wire.Goals as goal

pub returns-then-kind-eq-COORD : goal.returns-then-kind-eq-COORD
returns-then-kind-eq-COORD c = rw (to_z-of_z {w = w32} {z = c.unzigzag.result} (record { sfits = c.unzigzag.type_inv }))
    (unwire_coordinate _ _ c.if-kind-eq-COORD.true _ c.unzigzag.ensures)

pub returns : goal.returns
returns c = rw (to_z_pos w32 c.args.n (omega arith)) (unwire_plain _ _ c.if-kind-eq-COORD.false)
