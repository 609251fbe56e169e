use mathlib.Core.Path.{ap}
use native.Mathlib.Omega.{arith}
use Rattle.layout.specs.declared.column.Column.{Column}
use Rattle.layout.specs.Fields.{Isolated, Start}
use Rattle.check_rules.specs.RuleLaws.{counted_by, vertices_counted}
use borrow.Author.Rules.{rules}
use Rattle.searching.specs.SearchingLaws.{all_by}
use Rattle.check_rules.proofs.rules.vertices_either.Goals as goal

pub tally_naming-requires : goal.tally_naming-requires
tally_naming-requires c = (
  omega (
    arith,
    ap (λ (k : Column). k.count) c.isolated_of_loops.ensures,
    c.requires.loops,
  ),
  search rules,
)

pub tally_naming-requires-2 : goal.tally_naming-requires-2
tally_naming-requires-2 c = (
  omega (
    arith,
    ap (λ (k : Column). k.count) c.starts_of_halves.ensures,
    c.requires.edges,
  ),
  search rules,
)

pub returns : goal.returns
returns c = let a = c.args in
    vertices_counted a.sh a.links.now _ _ _ c.requires.vertices
    (counted_by a.sh _ Isolated
    c.isolated_of_loops.ensures
    c.tally_naming.ensures)
    (counted_by a.sh _ Start c.starts_of_halves.ensures
    c.tally_naming-2.ensures)
    (all_by _ c.all_pass.ensures (λ k l u b p. search rules))
