-- What a theorem about an operator says: the table stays sound, and the operator's inverse, run on what it left, gives
-- everything back.
use Rattle.std.specs.Prelude.{◌≡◌, ◌⊎◌, List, ℕ, ◌≤◌, ℤ}
use Rattle.script.specs.declared.Operator.{Operator}
use Rattle.layout.specs.declared.shape.Shape.{Shape}
use Rattle.euler.specs.Exec.{refusal_of, marks_after, killed_vertex, points_after, inverse}
use Rattle.layout.specs.Fields.{VertexUsed}
use Rattle.sound_tables.specs.Sound.{In}
use Rattle.sound_tables.specs.Good.{own, Marked}

-- o's inverse is accepted on what o left, gives back every word of links and points, and has o for its own inverse;
-- `after` is what operators do to the links
pub record UndoneBy (after : Shape → List ℕ → Operator → List ℕ) (sh : Shape) (x : List ℕ) (p : List ℤ) (o : Operator)
    : Type 0 where
  pub accepted : refusal_of sh (after sh x o) (inverse sh x p o) ≡ 0
  pub links : after sh (after sh x o) (inverse sh x p o) ≡ x
  pub points : points_after sh (after sh x o) (points_after sh x p o) (inverse sh x p o) ≡ p
  pub again : inverse sh (after sh x o) (points_after sh x p o) (inverse sh x p o) ≡ o

-- ---- as long as vertex words are marks

-- operator o on a marked table leaves a marked one
abbrev pub Kept : Shape → List ℕ → List ℤ → Operator → Type 0
Kept sh x p o = Marked sh (marks_after sh x o) (points_after sh x p o)

-- the word of the vertex that o kills is 1 at most, as operators leave it that make a vertex
abbrev pub Low : Shape → List ℕ → Operator → Type 0
Low sh x o = own sh x VertexUsed (killed_vertex sh x o) ≤ 1

-- that vertex is free afterwards
abbrev pub Gone : Shape → List ℕ → Operator → Type 0
Gone sh x o = (killed_vertex sh x o ≡ 0) ⊎ (In sh.vertices (killed_vertex sh x o)
    × (own sh (marks_after sh x o) VertexUsed (killed_vertex sh x o) ≡ 0))

-- and is undone
abbrev pub Undone : Shape → List ℕ → List ℤ → Operator → Type 0
Undone = UndoneBy marks_after

-- both, where o leaves links y and points q, and its inverse is i
pub exact : {sh : Shape} {x y : List ℕ} {p q : List ℤ} {o i : Operator}
    → marks_after sh x o ≡ y → points_after sh x p o ≡ q → inverse sh x p o ≡ i → Marked sh y q
    → refusal_of sh y i ≡ 0 → marks_after sh y i ≡ x → points_after sh y q i ≡ p → inverse sh y q i ≡ o
    → Kept sh x p o × Undone sh x p o
exact el ep ei g accepted links points again = (
  rw (el, ep) g,
  record {
    accepted = rw (el, ei) accepted;
    links = rw (el, ei) links;
    points = rw (el, ep, ei) points;
    again = rw (el, ep, ei) again;
  },
)
