use mathlib.Core.Path.{ap}
use native.Mathlib.Omega.{arith}
use Rattle.layout.specs.declared.column.Column.{Column}
use Rattle.layout.specs.Fields.{Solid}
use Rattle.check_rules.specs.RuleLaws.{named_by, rule2_is}
use borrow.Author.Rules.{rules}
use Rattle.searching.specs.SearchingLaws.{all_by}
use Rattle.check_rules.proofs.rules.rule_2.Goals as goal

pub least_naming-requires : goal.least_naming-requires
least_naming-requires c = (
  omega (
    arith,
    ap (λ (k : Column). k.count) c.solids_of_faces.ensures,
    c.requires.faces,
  ),
  search rules,
)

pub returns : goal.returns
returns c = rule2_is
    c.args.sh
    c.args.links.now _ _ _ _ _
    c.requires.solids
    (named_by
    c.args.sh _ Solid
    c.solids_of_faces.ensures
    c.least_naming.ensures)
    (all_by _ c.all_pass.ensures (λ k l u b p. search rules))
    (all_by _ c.all_pass-2.ensures (λ k l u b p. search rules))
    (all_by _ c.all_pass-3.ensures (λ k l u b p. search rules))
    (all_by _ c.all_pass-4.ensures (λ k l u b p. search rules))
