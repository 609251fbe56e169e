use Rattle.std.proofs.Common.{arith, refl, ◌+◌, ◌*◌}
use Rattle.sweep_puts.specs.Laid.{laid_empty, series_zero}
use Rattle.sweep_puts.specs.RiserLaws.{riser_undone, corner_first, risers_turn, risers_end}
use Rattle.sweep_puts.proofs.risers.put_risers.Goals as goal

pub loop-j-init : goal.loop-j-init
loop-j-init c = (
  omega arith,
  omega arith,
  omega arith,
  omega arith,
  refl,
  corner_first c.args.sh c.args.links.now c.args.l _ c.loop_first-k.ensures.0,
  laid_empty (series_zero _),
)

pub riser_of-op-requires : goal.riser_of-op-requires
riser_of-op-requires c = (
  omega arith,
  omega arith,
  c.requires.holds.high (2 * c.args.b + c.loop-j.j) (omega arith),
  c.requires.holds_2.high (c.args.b + c.loop-j.j) (omega arith),
)

pub kev_size-requires : goal.kev_size-requires
kev_size-requires c = c.requires.holds.high (2 * c.args.b + c.loop-j.j) (omega arith)

pub put_one-behind-requires : goal.put_one-behind-requires
put_one-behind-requires c = (
  riser_undone c.args.sh c.args.links.now c.args.points.now _ _ _ _ _ _ _
      (c.requires.holds.high (2 * c.args.b + c.loop-j.j) (omega arith))
      c.riser_of-op.ensures c.kev_size.ensures.0 c.kev_size.ensures.1,
  omega arith,
  omega arith,
  omega arith,
)

pub loop-j-preserved : goal.loop-j-preserved
loop-j-preserved c = risers_turn c.args.sh c.args.links.now c.args.points.now
    _ _ _ _ _ _ _ _ _ _ _ _ _ _ _ _ _ _ _ _ _ _
    c.requires.holds c.requires.holds_2 c.requires.moving refl c.loop-j-test.true c.loop-j.invariant refl refl
    c.riser_of-op.ensures c.put_one-behind.ensures c.next_of-k.ensures.0 c.next_of-k.ensures.1

pub returns : goal.returns
returns c = risers_end c.args.sh c.args.links.now c.args.points.now _ _ _ _ _ _ _ _ _ _ _ _ _ c.loop-j.invariant
    (omega arith) refl
