use Rattle.std.proofs.Common.{rules}
use Rattle.searching.specs.SearchingLaws.{all_by}
use Rattle.check_rules.specs.RuleLaws.{rule3_is}
use Rattle.check_rules.proofs.rules.rule_3.Goals as goal

pub returns : goal.returns
returns c = rule3_is _ _ _ (all_by _ c.all_pass.ensures (λ k l u b p. search rules))
