use Rattle.std.proofs.Common.{sym, arith, to_z-of_z, w32}
use Rattle.runs_take.specs.Turns.{number_small, scan_bad, scan_turn, scan_end}
use Rattle.runs_take.proofs.take.scan_operands.Goals as goal

pub returns-in_default : goal.returns-in_default
returns-in_default c = let v = c.loop-i.invariant in
    scan_bad _ _ _ _ _ (omega (arith, v.0, c.requires.count_bound)) _ _ _ _ _ v.1 c.loop-i-test.true
    (sym c.in_default.ensures)

pub from_wire-requires : goal.from_wire-requires
from_wire-requires c = number_small c.args.script.now c.loop-i.next _ c.in-Some.after (sym c.in-Some.ensures)

pub loop-i-preserved : goal.loop-i-preserved
loop-i-preserved c = let v = c.loop-i.invariant in
    rw (to_z-of_z {w = w32} {z = c.from_wire.result} (record { sfits = c.from_wire.type_inv })) (
      v.0,
      scan_turn _ _ _ _ _ (omega (arith, v.0, c.requires.count_bound)) _ _ _ _ _ v.1 c.loop-i-test.true _ _
          (sym c.in-Some.ensures) _ c.join_refusal-admitted.ensures _ c.from_wire.ensures,
    )

pub returns-in-Ok : goal.returns-in-Ok
returns-in-Ok c = let v = c.loop-i.invariant in
    rw c.in-Ok.is at (scan_end _ _ _ c.args.kinds c.args.count (omega (arith, v.0, c.requires.count_bound)) _ _ _ _ _
    v.1
    (omega (arith, c.loop-i-test.false)))

pub returns-in-Err : goal.returns-in-Err
returns-in-Err c = let v = c.loop-i.invariant in
    rw c.in-Err.is at (scan_end _ _ _ c.args.kinds c.args.count (omega (arith, v.0, c.requires.count_bound)) _ _ _ _ _
    v.1
    (omega (arith, c.loop-i-test.false)))
