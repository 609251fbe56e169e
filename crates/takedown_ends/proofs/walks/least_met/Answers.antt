use Rattle.std.proofs.Common.{◌≡◌, ◌-◌, arith}
use Rattle.takedown_ends.specs.Walks.{met_stop, met_turn, met_out}
use Rattle.takedown_ends.proofs.walks.least_met.Goals as goal

pub loop-init : goal.loop-init
loop-init g c = let e : c.args.fuel - 0 ≡ c.args.fuel = omega arith in (omega arith, λ key h. rw e)

pub returns-then-j-stop : goal.returns-then-j-stop
returns-then-j-stop g c =
    λ key h. met_stop key _ _ _ _ _ _ _ (c.loop.invariant.1 key h) (omega arith) c.if-j-stop.true

pub loop-preserved : goal.loop-preserved
loop-preserved g c = let inv = c.loop.invariant in (
  c.next_of-j.ensures.1,
  λ key h. met_turn key _ _ _ _ _ _ _ (inv.1 key h) c.if-j-stop.false _ (h _ inv.0 _ c.key.ensures) _
      c.min-least.ensures _ c.next_of-j.ensures.0 _ (omega (arith, c.loop-test.true)),
)

pub returns : goal.returns
returns g c = λ key h. met_out key _ _ _ _ _ _ _ (c.loop.invariant.1 key h) (omega arith)
