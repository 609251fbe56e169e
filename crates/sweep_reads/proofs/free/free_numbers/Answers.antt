use Rattle.std.proofs.Common.{arith, refl, sym, ◌+◌}
use Rattle.laws.specs.Sums.{bit_le}
use Rattle.chains.specs.Ranked.{filled_none, filled_more, filled_all}
use Rattle.sweep_reads.proofs.free.free_numbers.Goals as goal

pub loop-k-init : goal.loop-k-init
loop-k-init t c = (omega arith, λ p h. filled_none _ _ _ refl)

pub loop-k-preserved : goal.loop-k-preserved
loop-k-preserved g c = (
  omega (arith, c.take-count.ensures.value, bit_le c.is_free.result),
  λ p h. filled_more p c.loop-k.k (c.loop-k.k + 1) _ _ _ c.loop-k.count _ c.is_free.result (omega arith) (omega arith)
      (c.loop-k.invariant.1 p h)
      (sym (h (c.loop-k.k + 1) (omega arith) (omega arith) c.is_free.result c.is_free.ensures))
      c.take-count.ensures.out_after c.take-count.ensures.value,
)

pub returns : goal.returns
returns g c = λ p h. filled_all p c.loop-k.k c.args.n _ _ _ (c.loop-k.invariant.1 p h) (omega arith) (omega arith)
