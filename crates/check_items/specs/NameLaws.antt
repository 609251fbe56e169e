-- Rules 2 and 3, one item at a time: the words that were read pass the tests of the table's words.
use Rattle.std.specs.Prelude.{◌≡◌, ◌&&◌, ◌||◌, List, [], ◌∷◌, ℕ, eqb}
use Rattle.laws.specs.Every.{every}
use Rattle.layout.specs.declared.shape.Shape.{Shape}
use Rattle.layout.specs.Layout.{solid_used, face_solid, face_outer, loop_face, loop_first, loop_isolated}
use Rattle.layout.specs.Layout.{start_of, loop_of, next_of, prev_of, vertex_used}
use Rattle.layout.specs.Items.{some}
use Rattle.check_items.specs.Rules.{where_some, face_names, loop_names, half_names, loop_either}

module _ (sh : Shape) (x : List ℕ) (n : ℕ) where
  pub face_names_is : (s u o b : ℕ) → s ≡ face_solid sh x n → u ≡ solid_used sh x s → o ≡ face_outer sh x n
      → b ≡ loop_face sh x o → where_some s (some u && eqb b n) ≡ face_names sh x n
  unfolding face_names
  face_names_is s u o b es eu eo eb = rw (eu, eb, es, eo)

  pub loop_names_is : (f k v s h u : ℕ) → f ≡ loop_face sh x n → k ≡ loop_first sh x n → v ≡ loop_isolated sh x n
      → s ≡ face_solid sh x f → h ≡ start_of sh x k → u ≡ vertex_used sh x v
      → where_some f (every (some s ∷ where_some k (some h) ∷ where_some v (some u) ∷ [])) ≡ loop_names sh x n
  unfolding loop_names
  loop_names_is f k v s h u ef ek ev es eh eu = rw (es, eh, eu, ef, ek, ev)

  pub half_names_is : (v u l f a s b t : ℕ) → v ≡ start_of sh x n → u ≡ vertex_used sh x v → l ≡ loop_of sh x n
      → f ≡ loop_face sh x l → a ≡ next_of sh x n → s ≡ start_of sh x a → b ≡ prev_of sh x n → t ≡ start_of sh x b
      → where_some v (every (some u ∷ some f ∷ some s ∷ some t ∷ [])) ≡ half_names sh x n
  unfolding half_names
  half_names_is v u l f a s b t ev eu el ef ea es eb et = rw (eu, ef, es, et, ev, el, ea, eb)

  pub loop_either_is : (f k v : ℕ) → f ≡ loop_face sh x n → k ≡ loop_first sh x n → v ≡ loop_isolated sh x n
      → where_some f ((some k && eqb v 0) || (eqb k 0 && some v)) ≡ loop_either sh x n
  unfolding loop_either
  loop_either_is f k v ef ek ev = rw (ef, ek, ev)
