use Rattle.check_rules.specs.RuleLaws.{rule5_is}
use Rattle.check_rules.proofs.rules.rule_5.Goals as goal

pub returns : goal.returns
returns c = let a = c.args in
    rule5_is a.sh a.links.now a.points.now c.requires.lower c.requires.links_value _ _ c.vertices_either.ensures
    c.vertex_cycles.ensures
