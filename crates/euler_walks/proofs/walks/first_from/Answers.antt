use native.Mathlib.Omega.{arith}
use mathlib.Core.Path.{◌∙◌}
use Rattle.euler_walks.specs.WalkLaws.{lesser, seek_from, seek_here, seek_stop, seek_turn, seek_out}
use Rattle.euler_walks.proofs.walks.first_from.Goals as goal

pub loop-j-init : goal.loop-j-init
loop-j-init c = (c.next_of-at.ensures.1, omega arith, seek_from _ _ _ _ _ _ _ c.next_of-at.ensures.0 (omega arith))

pub returns-then-owner-l : goal.returns-then-owner-l
returns-then-owner-l c = (
  seek_here _ _ _ _ _ _ _ _ _ c.loop-j.invariant.2 (omega
      arith) _ c.loop_of-owner.ensures.0 c.if-owner-l.true,
  omega arith,
)

pub returns-then-at-k : goal.returns-then-at-k
returns-then-at-k c = (
  seek_stop _ _ _ _ _ _ _ _ _ c.loop-j.invariant.2 (omega
      arith) _ c.loop_of-owner.ensures.0 c.if-owner-l.false c.if-at-k.true,
  omega arith,
)

pub loop-j-preserved : goal.loop-j-preserved
loop-j-preserved c = (
  omega arith,
  omega arith,
  seek_turn _ _ _ _ _ _ _ _ _ c.loop-j.invariant.2 (omega arith) _
      c.loop_of-owner.ensures.0 c.if-owner-l.false
      c.if-at-k.false _ _ (c.min-best.ensures ∙ lesser _ _) c.next_of-at-in-loop-j.ensures.0,
)

pub returns : goal.returns
returns c = (seek_out _ _ _ _ _ _ _ _ _ c.loop-j.invariant.2 (omega arith), omega arith)
