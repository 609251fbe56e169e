use mathlib.Core.Path.{ap}
use native.Mathlib.Omega.{arith}
use Rattle.layout.specs.declared.column.Column.{Column}
use Rattle.layout.specs.Fields.{Solid}
use Rattle.layout.specs.Layout.{face_solid}
use Rattle.check_rules.specs.RuleLaws.{leaders_long, rule6_is, named_by}
use borrow.Author.Rules.{rules}
use Rattle.searching.specs.SearchingLaws.{all_by}
use Rattle.check_rules.proofs.rules.rule_6.Goals as goal

pub least_naming-requires : goal.least_naming-requires
least_naming-requires c = (
  omega (
    arith,
    ap (λ (k : Column). k.count) c.solids_of_faces.ensures,
    c.requires.small.faces,
  ),
  search rules,
)

pub shells_whole-requires : goal.shells_whole-requires
shells_whole-requires c = (
  c.requires.small.faces,
  c.requires.small.edges,
  leaders_long (face_solid c.args.sh
      c.args.links.now) _ _
      (named_by c.args.sh _ Solid
      c.solids_of_faces.ensures
      c.least_naming.ensures),
)

pub returns : goal.returns
returns c = rule6_is c.args.sh
    c.args.links.now
    c.args.points.now
    c.requires _ _ _
    (named_by c.args.sh _ Solid
    c.solids_of_faces.ensures
    c.least_naming.ensures)
    (all_by _ c.all_pass.ensures (λ k l u b p. search rules)) c.shells_whole.ensures
