use Rattle.std.proofs.Common.{rules, true, ◌≡◌}
use Rattle.table.specs.Check.{check_of}
use Rattle.table.specs.CheckLaws.{check_small, ruled_is, check_ruled}
use Rattle.table.proofs.check.checked.Goals as goal

pub returns-in_err-ensure : goal.returns-in_err-ensure
unfolding check_of
returns-in_err-ensure c = search rules

pub broken_rule-requires : goal.broken_rule-requires
broken_rule-requires c = search (rules, check_small)

pub returns : goal.returns
returns c =
    let fits : c.table_fits.result ≡ true = search rules in
    rw (ruled_is c.broken_rule.result c.map_err.result c.map_err.ensures.cases (λ e f p. search rules))
    (check_ruled c.args.links.now c.args.points.now c.shape_of.result _ (rw c.table_fits.ensures at fits)
    c.shape_of.ensures c.broken_rule.ensures)
