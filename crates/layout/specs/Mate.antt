-- The two halves of an edge: edge e has the half-edges 2e − 1 and 2e, each the other's mate.
use Rattle.std.specs.Prelude.{ℕ, ◌+◌, ◌-◌, ◌/◌, ◌%◌, eqb}
use Rattle.laws.specs.Bools.{pick}

-- the other half of k's edge
unfoldable pub mate : ℕ → ℕ
mate k = pick (eqb (k % 2) 1) (k + 1) (k - 1)

-- the edge of half-edge k
abbrev pub edge_of : ℕ → ℕ
edge_of k = (k + 1) / 2
