-- Every inverse is a record of eight operands, whatever the table holds.
use Rattle.std.specs.Prelude.{◌≡◌, refl, List, [], ◌∷◌, ℕ, zero, suc, ℤ, length, get_or}
use Rattle.script.specs.declared.Operator.{Operator}
use Rattle.layout.specs.declared.shape.Shape.{Shape}
use Rattle.euler.specs.Surgery.{item_of}
use Rattle.euler.specs.Exec.{inverses, inverse}

-- all of a list have eight operands
abbrev AllEight : List Operator → Type 0
AllEight [] = Unit {0}
AllEight (o ∷ os) = (length o.args ≡ 8) × AllEight os

-- then so has the one at any place
eight_at : (os : List Operator) (d : Operator) → length d.args ≡ 8 → AllEight os → (k : ℕ)
    → length (get_or os k d).args ≡ 8
eight_at [] d e a k = e
eight_at (o ∷ os) d e a zero = a.0
eight_at (o ∷ os) d e a (suc k) = eight_at os d e a.1 k

-- the operator that undoes another has eight operands
pub inverse_eight : (sh : Shape) (x : List ℕ) (p : List ℤ) (o : Operator) → length (inverse sh x p o).args ≡ 8
unfolding inverse
inverse_eight sh x p o =
    eight_at (inverses sh x p (item_of o)) _ refl
    (refl, (refl, (refl, (refl, (refl, (refl, (refl, (refl, (refl, (refl, (refl, (refl, (refl, (refl, tt))))))))))))))
    o.code
