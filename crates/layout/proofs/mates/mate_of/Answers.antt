use mathlib.Core.Path.{refl, sym}
use native.Mathlib.Omega.{arith}
use Rattle.layout.specs.Mate.{mate}
use Rattle.layout.specs.MateLaws.{mate_odd, mate_even}
use Rattle.layout.proofs.mates.mate_of.Goals as goal

pub returns-then-k-eq1 : goal.returns-then-k-eq1
returns-then-k-eq1 c = let e = mate_odd _ c.if-k-eq1.true in (sym e, omega arith, omega arith)

pub returns-then-k-eq0 : goal.returns-then-k-eq0
unfolding mate
returns-then-k-eq0 c = rw c.if-k-eq0.true (refl, omega arith, omega arith)

pub returns : goal.returns
returns c = let e = mate_even _ c.if-k-eq1.false in (sym e, omega arith, omega arith)
