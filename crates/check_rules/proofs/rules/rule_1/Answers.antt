use Rattle.std.proofs.Common.{rules}
use Rattle.searching.specs.SearchingLaws.{all_by}
use Rattle.check_rules.specs.RuleLaws.{rule1_is}
use Rattle.check_rules.proofs.rules.rule_1.Goals as goal

pub returns : goal.returns
returns c = rule1_is c.args.sh c.args.links.now c.args.points.now _ _ _ _ _
    (all_by _ c.all_pass.ensures (λ k l u b p. search rules))
    (all_by _ c.all_pass-2.ensures (λ k l u b p. search rules))
    (all_by _ c.all_pass-3.ensures (λ k l u b p. search rules))
    (all_by _ c.all_pass-4.ensures (λ k l u b p. search rules))
    (all_by _ c.all_pass-5.ensures (λ k l u b p. search rules))
