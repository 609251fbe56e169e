use mathlib.Core.Path.{ap}
use native.Mathlib.Omega.{arith}
use Rattle.layout.specs.declared.column.Column.{Column}
use Rattle.layout.specs.Fields.{Start}
use Rattle.check_rules.specs.RuleLaws.{named_by, cycles_walked}
use Rattle.std.proofs.Common.{rules, true}
use Rattle.check_orbits.specs.Cycles.{step_of}
use Rattle.check_rules.proofs.rules.vertex_cycles.Goals as goal

pub least_naming-requires : goal.least_naming-requires
least_naming-requires c = (
  omega (
    arith,
    ap (λ (k : Column). k.count) c.starts_of_halves.ensures,
    c.requires.edges,
  ),
  search rules,
)

pub returns : goal.returns
returns c = let a = c.args in
    cycles_walked a.sh a.links.now _ _
    (named_by a.sh _ Start c.starts_of_halves.ensures
    c.least_naming.ensures)
    (c.one_cycle_each.ensures (step_of a.sh a.links.now true) (λ k r u p. search rules))
