-- The parts of an item's test that are functions of their own.
use Rattle.std.specs.Prelude.{ℕ, Bool, ◌&&◌, ◌||◌, List, [], ◌∷◌, leb, ℤ}
use Rattle.laws.specs.Every.{every}
use Rattle.layout.specs.declared.shape.Shape.{Shape}
use Rattle.layout.specs.Layout.{loop_first, loop_of}
use Rattle.layout.specs.Points.{in_range, is_zero}
use Rattle.layout.specs.Items.{some}
use Rattle.check_items.specs.Rules.{only_with}

-- b is there only where a is
unfoldable pub goes_with : ℕ → ℕ → Bool
goes_with a b = only_with a b

-- the point of vertex v is in range
unfoldable pub point_in : List ℤ → ℕ → Bool
point_in p v = every (in_range p v 0 ∷ in_range p v 1 ∷ in_range p v 2 ∷ [])

-- the point of vertex v is zero where its word u is 0
unfoldable pub point_free : List ℤ → ℕ → ℕ → Bool
point_free p v u = some u || (is_zero p v 0 && is_zero p v 1 && is_zero p v 2)

-- the first half-edge of k's loop is at most k
unfoldable pub first_low : Shape → List ℕ → ℕ → Bool
first_low sh x k = leb (loop_first sh x (loop_of sh x k)) k
