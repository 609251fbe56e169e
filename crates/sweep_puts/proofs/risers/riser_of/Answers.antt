use Rattle.std.proofs.Common.{rules}
use Rattle.sweep_puts.specs.RiserLaws.{riser_made}
use Rattle.sweep_puts.proofs.risers.riser_of.Goals as goal

pub returns : goal.returns
returns c = riser_made c.args.sh c.args.links.now c.args.points.now c.args.l c.args.k c.args.e c.args.v _ c.args.d
    c.moved-x.result c.moved-y.result c.moved-z.result _ (search rules) (search rules) (search rules)
    c.moved-x.type_inv c.moved-y.type_inv c.moved-z.type_inv c.start_of-s.ensures.0 c.moved-x.ensures
    c.moved-y.ensures c.moved-z.ensures c.mev_of.ensures
