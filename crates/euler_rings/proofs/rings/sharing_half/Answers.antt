use Rattle.std.proofs.Common.{rules}
use Rattle.euler.specs.FaceOperators.{shares_outside}
use Rattle.euler.specs.Scans.{least_found}
use Rattle.euler_rings.proofs.rings.sharing_half.Goals as goal

pub returns : goal.returns
returns c = let a = c.args in
    (least_found (shares_outside a.sh a.links.now a.l a.f) c.unwrap_or.ensures c.least.ensures
    (λ k l u b p. search rules)).0
