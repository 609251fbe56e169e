use Rattle.std.proofs.Common.{arith, refl}
use Rattle.sweep_puts.specs.Laid.{laid_empty, series_zero}
use Rattle.sweep_puts.specs.SideLaws.{names_in, sides_turn, sides_end}
use Rattle.sweep_puts.proofs.sides.put_round.Goals as goal

pub loop-j-init : goal.loop-j-init
loop-j-init c = (omega arith, omega arith, omega arith, refl, laid_empty (series_zero _))

pub put_side-behind-requires : goal.put_side-behind-requires
put_side-behind-requires c = record {
  l_bound = (omega arith, omega arith, omega arith, c.requires.l_bound.2);
  at_in_bounds = (omega arith, omega arith, omega arith);
}

pub loop-j-preserved : goal.loop-j-preserved
loop-j-preserved c = sides_turn (names_in c.args.numbers.edges.now
    c.args.numbers.faces.now
    c.args.numbers.loops.now)
    c.args.l
    c.args.z
    c.args.b _ _ _ _ _ _ _ _ _ _
    (omega arith) c.loop-j.invariant
    c.put_side-behind.ensures

pub returns : goal.returns
returns c = sides_end (names_in c.args.numbers.edges.now
    c.args.numbers.faces.now c.args.numbers.loops.now)
    c.args.l c.args.z c.args.b _
    _ _ _ _ _ _ c.loop-j.invariant (omega arith)
