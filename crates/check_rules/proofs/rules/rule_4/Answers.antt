use Rattle.std.proofs.Common.{rules, ap, not, false}
use Rattle.searching.specs.SearchingLaws.{all_by}
use Rattle.check_orbits.specs.Cycles.{step_of}
use Rattle.check_rules.specs.RuleLaws.{rule4_not, rule4_is}
use Rattle.check_rules.proofs.rules.rule_4.Goals as goal

pub returns-then-not-halves-firsts_named : goal.returns-then-not-halves-firsts_named
returns-then-not-halves-firsts_named c = rule4_not c.args.sh c.args.links.now c.args.points.now c.requires _ _
    (all_by _ c.all_pass-halves.ensures (λ k l u b p. search rules))
    (all_by _ c.all_pass-firsts_named.ensures (λ k l u b p. search rules))
    (ap not c.if-not-halves-firsts_named.true)

pub returns : goal.returns
returns c = rule4_is c.args.sh c.args.links.now c.args.points.now c.requires _ _
    (all_by _ c.all_pass-halves.ensures (λ k l u b p. search rules))
    (all_by _ c.all_pass-firsts_named.ensures (λ k l u b p. search rules))
    (ap not c.if-not-halves-firsts_named.false) _ _ c.loop_firsts.ensures
    (c.one_cycle_each.ensures (step_of c.args.sh c.args.links.now false) (λ k r u p. search rules))
