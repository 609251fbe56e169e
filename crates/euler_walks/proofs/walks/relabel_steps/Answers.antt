use mathlib.Core.Path.{refl}
use native.Mathlib.Omega.{arith}
use Rattle.euler.specs.Passed.{walked_none, walked_on, walked_stop, walked_out}
use Rattle.euler_walks.proofs.walks.relabel_steps.Goals as goal

pub loop-init : goal.loop-init
loop-init c = (omega arith, refl, walked_none _ _ _ _ _ _ refl)

pub returns-then-k-stop : goal.returns-then-k-stop
returns-then-k-stop c = walked_stop _ _ _ _ _ _ _ _ c.loop.invariant.2 _ (omega arith) (omega arith)

pub loop-preserved : goal.loop-preserved
loop-preserved c = (
  omega arith,
  omega arith,
  walked_on _ _ _ _ _ _ _ _ c.loop.invariant.2
      (λ e. absurd (omega arith)) _ (omega arith) _ _ c.pass_one-k.ensures.links_after
      c.pass_one-k.ensures.value.0,
)

pub returns : goal.returns
returns c = walked_out _ _ _ _ _ _ _ _ c.loop.invariant.2 _ (omega arith)
