-- The ways out of the two tests that read arrays.
use Rattle.std.specs.Prelude.{◌≡◌, refl, ◌≢◌, Bool, true, false, ◌&&◌, ◌||◌, List, ℕ, ◌+◌, eqb, get_or}
use Rattle.std.proofs.Common.{◌∙◌, arith}
use Rattle.laws.specs.Bools.{eqb_same, eqb_other}
use Rattle.layout.specs.declared.shape.Shape.{Shape}
use Rattle.layout.specs.Layout.{solid_used, vertex_used}
use Rattle.layout.specs.Items.{some}
use Rattle.check_rules.specs.Labels.{solid_named_by, vertex_either_by}

or_false : (b : Bool) → (b || false) ≡ b
or_false true = refl
or_false false = refl

module _ (sh : Shape) (x a : List ℕ) (n : ℕ) where
  -- a free solid
  pub solid_free : solid_used sh x n ≡ 0 → true ≡ solid_named_by sh x a n
  unfolding solid_named_by
  solid_free e = rw (eqb_same e)

  -- a solid in use has an entry
  pub solid_named : (r : Bool) → solid_used sh x n ≢ 0 → r ≡ some (get_or a n 0) → r ≡ solid_named_by sh x a n
  unfolding solid_named_by
  solid_named r f h = h ∙ rw (eqb_other f)

module _ (sh : Shape) (x a b : List ℕ) (n : ℕ) where
  -- a free vertex
  pub vertex_free : vertex_used sh x n ≡ 0 → true ≡ vertex_either_by sh x a b n
  unfolding vertex_either_by
  vertex_free e = rw (eqb_same e)

  -- one whose word is not 1 plus the number of half-edges that start there
  pub vertex_miscounted : vertex_used sh x n ≢ 0 → vertex_used sh x n ≢ 1 + get_or b n 0
      → false ≡ vertex_either_by sh x a b n
  unfolding vertex_either_by
  vertex_miscounted f g = rw (eqb_other f, eqb_other g)

  -- any other is in use
  counted : vertex_used sh x n ≡ 1 + get_or b n 0 → vertex_used sh x n ≢ 0
  counted e = omega arith

  -- isolated in one loop it starts nothing
  pub vertex_isolated : (r : Bool) → vertex_used sh x n ≡ 1 + get_or b n 0 → get_or a n 0 ≡ 1 → r ≡ eqb (get_or b n 0) 0
      → r ≡ vertex_either_by sh x a b n
  unfolding vertex_either_by
  vertex_isolated r w e h = h ∙ rw (eqb_other (counted w), eqb_same w, e, or_false (eqb (get_or b n 0) 0))

  -- else it is isolated in none and starts something
  pub vertex_starting : (c k : ℕ) → vertex_used sh x n ≡ 1 + get_or b n 0 → c ≢ 1 → c ≡ get_or a n 0 → k ≡ get_or b n 0
      → (eqb c 0 && some k) ≡ vertex_either_by sh x a b n
  unfolding vertex_either_by
  vertex_starting c k w g ec ek = rw (eqb_other (counted w), eqb_same w, ← ec, ← ek, eqb_other g)
