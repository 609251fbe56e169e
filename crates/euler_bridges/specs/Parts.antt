-- The part of mekr that is a function of its own in the code.
use Rattle.std.specs.Prelude.{ℕ, List}
use Rattle.layout.specs.declared.shape.Shape.{Shape}
use Rattle.euler.specs.Steps.{does}
use Rattle.euler.specs.EdgeOperators.{mekr_edge}

-- mekr's edge goes in between the two corners
unfoldable pub mekr_in : Shape → List ℕ → ℕ → ℕ → ℕ → ℕ → ℕ → List ℕ
mekr_in sh x l h1 l2 h2 k = does sh (mekr_edge sh x l h1 l2 h2 k) x
