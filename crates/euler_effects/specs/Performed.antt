-- The effects know an operator by its code and its operands: they are those of any operator that has these.
use Rattle.std.specs.Prelude.{◌≡◌, List, ℕ, ℤ}
use Rattle.script.specs.declared.Operator.{Operator}
use Rattle.layout.specs.declared.shape.Shape.{Shape}
use Rattle.euler.specs.Valence.{less_starts, more_starts}
use Rattle.euler.specs.Exec.{operator_by, marks_after, links_after, killed_vertex, points_after}

module _ (sh : Shape) (x : List ℕ) (o : Operator) where
  pub links_performed : (y : List ℕ) → y ≡ links_after sh x (operator_by o.code o.args) → y ≡ links_after sh x o
  unfolding links_after marks_after less_starts more_starts
  links_performed y e = e

  -- step by step from the last: words up, words down, links
  pub links_steps : {r z y : List ℕ} → r ≡ more_starts sh o z → z ≡ less_starts sh x o y → y ≡ marks_after sh x o
      → r ≡ links_after sh x o
  unfolding links_after
  links_steps er ez ey = rw (er, ez, ey)

  pub points_performed : (p q : List ℤ) → q ≡ points_after sh x p (operator_by o.code o.args)
      → q ≡ points_after sh x p o
  unfolding points_after killed_vertex
  points_performed p q e = e
