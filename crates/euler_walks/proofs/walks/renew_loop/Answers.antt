use Rattle.std.proofs.Common.{rules, ◌≡◌, eqb}
use Rattle.laws.specs.Bools.{pick}
use Rattle.euler_walks.specs.WalkLaws.{renew_is}
use Rattle.euler_walks.proofs.walks.renew_loop.Goals as goal

pub returns : goal.returns
returns c =
    let v : c.if-k-eq0.isolated ≡ pick (eqb c.args.k 0) c.args.u 0 = search rules in
    renew_is _ _ _ _ _ _ _ _ _ _ c.first_from-first.ensures.0 v c.set_loop_first.ensures c.set_loop_isolated.ensures
