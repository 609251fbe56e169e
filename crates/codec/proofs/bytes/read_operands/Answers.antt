use mathlib.Core.Path.{◌∙◌, sym}
use native.Mathlib.Omega.{arith}
use lib.ListN.{length-set}
use Rattle.codec.specs.ReadLaws.{operands_cut, operands_turn, operands_end}
use Rattle.codec.proofs.bytes.read_operands.Goals as goal

pub returns-in_err-n : goal.returns-in_err-n
returns-in_err-n c = let v = c.loop-i.invariant in
    c.from_residual.ensures ∙ operands_cut _ _ _ _ _ v.0 v.1 _ v.2 c.loop-i-test.true (sym c.in_err-n.ensures)

pub loop-i-preserved : goal.loop-i-preserved
loop-i-preserved c = let v = c.loop-i.invariant in (
  v.0,
  simp length-set v.1,
  operands_turn _ _ _ _ _ v.0 v.1 _ v.2 _ _ c.loop-i-test.true (sym c.in_ok-n.ensures),
)

pub returns : goal.returns
returns c = let v = c.loop-i.invariant in operands_end _ _ _ _ _ v.0 v.1 _ v.2 (omega arith)
