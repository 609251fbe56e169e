-- The ways through the tests.
use Rattle.std.specs.Prelude.{◌≡◌, refl, ◌≢◌, Bool, true, false, ◌&&◌, List, [], ◌∷◌, ℕ}
use Rattle.std.specs.Prelude.{ℤ, ◌+ℤ◌}
use Rattle.std.proofs.Common.{sym, ◌∙◌, SFits, to_z-of_z}
use Rattle.std.specs.Int.{w32}
use Rattle.laws.specs.Every.{every}
use Rattle.layout.specs.declared.shape.Shape.{Shape}
use Rattle.layout.specs.Layout.{start_of, side}
use Rattle.layout.specs.Items.{some}
use Rattle.layout.specs.Points.{coordinate, range_test}
use Rattle.sweep_reads.specs.MovedLaws.{back}
use Rattle.laws.specs.Bools.{eqb_same, eqb_other}
use Rattle.sweeps.specs.declared.Vector.{Vector}
use Rattle.sweeps.specs.Sweep.{moves}

-- ---- one half-edge

and_false : (a : Bool) → (a && false) ≡ false
and_false true = refl
and_false false = refl

every_three : (a b c : Bool) → (a && (b && c)) ≡ every (a ∷ b ∷ c ∷ [])
every_three true true true = refl
every_three true true false = refl
every_three true false c = refl
every_three false b c = refl

module _ (sh : Shape) (x : List ℕ) (p : List ℤ) (f : ℕ) (w : Vector) (k v : ℕ) (e : v ≡ start_of sh x k) where
  -- it is free
  pub moves_free : v ≡ 0 → true ≡ moves sh x p f w k
  moves_free z = rw (eqb_same (sym e ∙ z)) refl

  -- it lies in another face
  pub moves_else : (g : ℕ) → g ≡ side sh x k → g ≢ f → true ≡ moves sh x p f w k
  moves_else g q n = rw (eqb_other (λ z. n (q ∙ z)), and_false (some (start_of sh x k))) refl

-- it is in use and lies in the face
pub moves_is : (sh : Shape) (x : List ℕ) (p : List ℤ) (f : ℕ) (w : Vector) (k v g : ℕ) (a b c : Bool) → SFits w32 w.x
    → SFits w32 w.y → SFits w32 w.z → v ≡ start_of sh x k → v ≢ 0 → g ≡ side sh x k → g ≡ f
    → a ≡ range_test (coordinate p v 0 +ℤ back w.x) → b ≡ range_test (coordinate p v 1 +ℤ back w.y)
    → c ≡ range_test (coordinate p v 2 +ℤ back w.z) → (a && (b && c)) ≡ moves sh x p f w k
moves_is sh x p f w k v g a b c fx fy fz ev n eg ef ea eb ec =
    rw (eqb_other (λ z. n (ev ∙ z)), eqb_same (sym eg ∙ ef))
    (rw (ea, eb, ec, to_z-of_z fx, to_z-of_z fy, to_z-of_z fz, ev)
    (every_three (range_test (coordinate p (start_of sh x k) 0 +ℤ w.x))
    (range_test (coordinate p (start_of sh x k) 1 +ℤ w.y))
    (range_test (coordinate p (start_of sh x k) 2 +ℤ w.z))))
