-- Rule 1, one item at a time: the words that were read pass the tests of the table's words.
use Rattle.std.specs.Prelude.{◌≡◌, ◌≢◌, Bool, true, ◌&&◌, List, [], ◌∷◌, ℕ, ◌*◌, eqb, leb, ℤ}
use Rattle.std.proofs.Common.{◌∙◌}
use Rattle.laws.specs.Bools.{eqb_same, eqb_other}
use Rattle.laws.specs.Every.{every}
use Rattle.layout.specs.declared.shape.Shape.{Shape}
use Rattle.layout.specs.Layout.{solid_used, face_solid, face_outer, loop_face, loop_first, loop_isolated}
use Rattle.layout.specs.Layout.{start_of, loop_of, next_of, prev_of, vertex_used}
use Rattle.layout.specs.Mate.{mate}
use Rattle.layout.specs.Points.{in_range, is_zero}
use Rattle.check_items.specs.Rules.{together, solid_range, face_range, loop_range, half_range, vertex_range}
use Rattle.check_items.specs.Parts.{goes_with, point_in, point_free}

-- ---- the parts

-- where a is, b may be anything
pub with_any : (a b : ℕ) → a ≢ 0 → true ≡ goes_with a b
unfolding goes_with
with_any a b f = rw (eqb_other f)

-- where a is not, b is not
pub with_none : (a b : ℕ) (r : Bool) → a ≡ 0 → r ≡ eqb b 0 → r ≡ goes_with a b
unfolding goes_with
with_none a b r e h = h ∙ rw (eqb_same e)

-- the three axes are looked at
pub point_in_lem : (p : List ℤ) (n i j k : ℕ) (a b d : Bool) → a ≡ in_range p n i → b ≡ in_range p n j
    → d ≡ in_range p n k
    → i ≡ 0 → j ≡ 1 → k ≡ 2 → every (a ∷ b ∷ d ∷ []) ≡ point_in p n
unfolding point_in
point_in_lem p n i j k a b d ea eb ed z o t = rw (ea, eb, ed, z, o, t)

-- the point of a vertex in use may be anything
pub free_used : (p : List ℤ) (n u : ℕ) → u ≢ 0 → true ≡ point_free p n u
unfolding point_free
free_used p n u f = rw (eqb_other f)

-- that of a free one is zero
pub free_zero : (p : List ℤ) (n u : ℕ) (a b d : Bool) → u ≡ 0 → a ≡ is_zero p n 0 → b ≡ is_zero p n 1
    → d ≡ is_zero p n 2
    → every (a ∷ b ∷ d ∷ []) ≡ point_free p n u
unfolding point_free
free_zero p n u a b d e ea eb ed = rw (ea, eb, ed, eqb_same e)

-- ---- the items

module _ (sh : Shape) (x : List ℕ) (n : ℕ) where
  pub solid_range_is : (u : ℕ) → u ≡ solid_used sh x n → leb u 1 ≡ solid_range sh x n
  unfolding solid_range
  solid_range_is u e = rw e

  pub face_range_is : (s l : ℕ) → s ≡ face_solid sh x n → l ≡ face_outer sh x n
      → every (leb s sh.solids ∷ leb l sh.loops ∷ together s l ∷ []) ≡ face_range sh x n
  unfolding face_range
  face_range_is s l es el = rw (es, el)

  pub loop_range_is : (f k v : ℕ) (p q : Bool) → f ≡ loop_face sh x n → k ≡ loop_first sh x n → v ≡ loop_isolated sh x n
      → p ≡ goes_with f k → q ≡ goes_with f v
      → every (leb f sh.faces ∷ leb k (2 * sh.edges) ∷ leb v sh.vertices ∷ p ∷ q ∷ []) ≡ loop_range sh x n
  unfolding loop_range goes_with
  loop_range_is f k v p q ef ek ev ep eq = rw (ep, eq, ef, ek, ev)

  pub half_range_is : (v l a b m k : ℕ) → v ≡ start_of sh x n → l ≡ loop_of sh x n → a ≡ next_of sh x n
      → b ≡ prev_of sh x n
      → m ≡ mate n → k ≡ start_of sh x m
      → every
      (leb v sh.vertices ∷ leb l sh.loops ∷ leb a (2 * sh.edges) ∷ leb b (2 * sh.edges)
      ∷ together v l ∷ together v a ∷ together v b ∷ together v k ∷ [])
      ≡ half_range sh x n
  unfolding half_range
  half_range_is v l a b m k ev el ea eb em ek = rw (ek, em, ev, el, ea, eb)

  pub vertex_range_is : (p : List ℤ) (u : ℕ) (a b : Bool) → u ≡ vertex_used sh x n → a ≡ point_in p n
      → b ≡ point_free p n u → (a && b) ≡ vertex_range sh x p n
  unfolding vertex_range point_in point_free
  vertex_range_is p u a b eu ea eb = rw (ea, eb, eu)
