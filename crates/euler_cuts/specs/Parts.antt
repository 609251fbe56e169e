-- Parts of mef and kef that are functions of their own in the code.
use Rattle.std.specs.Prelude.{ℕ, List, eqb}
use Rattle.laws.specs.Bools.{pick}
use Rattle.layout.specs.declared.shape.Shape.{Shape}
use Rattle.layout.specs.Mate.{mate}
use Rattle.euler.specs.declared.records.Half.{Half}
use Rattle.euler.specs.Surgery.{edge_out}
use Rattle.euler.specs.Steps.{does}
use Rattle.euler.specs.EdgeOperators.{mef_edge}

-- mef's edge goes in between the two corners
unfoldable pub mef_in : Shape → List ℕ → ℕ → ℕ → ℕ → ℕ → ℕ → ℕ → List ℕ
mef_in sh x l h1 h2 a l2 w = does sh (mef_edge sh x l h1 h2 a l2 w) x

-- n follows k, and o follows m: n, or where k is alone o, or 0 where both are alone
abbrev pub rest_of : ℕ → ℕ → ℕ → ℕ → ℕ
rest_of k n m o = pick (eqb n k) (pick (eqb o m) 0 o) n

-- kef's edge by the words a of k and b of its mate
unfoldable pub kef_out : Shape → List ℕ → ℕ → Half → Half → List ℕ
kef_out sh y k a b =
    edge_out sh y k
    (pick (eqb b.next (mate k)) a.prev b.prev) (pick (eqb a.next k) b.next a.next)
    (pick (eqb a.next k) b.prev a.prev) (pick (eqb b.next (mate k)) a.next b.next)
