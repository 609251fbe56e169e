use Rattle.std.proofs.Common.{rules, arith}
use Rattle.euler.specs.Scans.{naming, least_found}
use Rattle.euler.proofs.scans.least_naming_one.Goals as goal

pub returns : goal.returns
returns c = let a = c.args in
    let r = least_found (naming a.column a.links.now a.label) c.unwrap_or.ensures c.least.ensures
    (λ k l u b p. search rules) in
    (r.0, omega (arith, r.1))
