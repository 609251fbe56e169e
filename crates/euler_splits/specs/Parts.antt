-- The part of jekv that is a function of its own in the code.
use Rattle.std.specs.Prelude.{ℕ, List}
use Rattle.layout.specs.declared.shape.Shape.{Shape}
use Rattle.layout.specs.Layout.{start_of, next_of, prev_of, set_start}
use Rattle.layout.specs.Mate.{mate}
use Rattle.euler.specs.Surgery.{tie}

-- n's edge taken out between k and what follows: k takes n's next, then the mate of k takes the previous of n's mate
-- and its start
unfoldable pub join_halves : Shape → List ℕ → ℕ → ℕ → List ℕ
join_halves sh x k n =
    set_start sh (tie sh first (prev_of sh first (mate n)) (mate k)) (mate k) (start_of sh x (mate n))
  where
    first : List ℕ
    first = tie sh x k (next_of sh x n)
