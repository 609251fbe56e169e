-- A table as the theorems about operators take it: of the right size, and sound in the words of `Sound`; and the words
-- of its vertices right.
use Rattle.std.specs.Prelude.{◌≡◌, ◌≢◌, List, ℕ, ◌+◌, ◌≤◌, ℤ, length}
use Rattle.std.proofs.Common.{◌∙◌, lit≤}
use Rattle.laws.specs.Columns.{Chained}
use Rattle.bounds.specs.Bounds.{most_items}
use Rattle.layout.specs.declared.shape.Shape.{Shape}
use Rattle.layout.specs.Layout.{shape_of}
use Rattle.layout.specs.Points.{points_length}
use Rattle.layout.specs.Fields.{Capacity, VertexUsed, Columns, groups, column}
use Rattle.check_items.specs.Rules.{starts_at}
use Rattle.sound_tables.specs.Cells.{Shows, shows_own}
use Rattle.sound_tables.specs.Sound.{In, Sound, sound_agree}

-- the columns of a table
abbrev pub own : Shape → List ℕ → Columns
own sh x F = column sh F x

-- capacities are 1 to 4,096
pub record Capacities (sh : Shape) : Type 0 where
  pub solids : (1 ≤ sh.solids) × (sh.solids ≤ most_items)
  pub faces : (1 ≤ sh.faces) × (sh.faces ≤ most_items)
  pub loops : (1 ≤ sh.loops) × (sh.loops ≤ most_items)
  pub edges : (1 ≤ sh.edges) × (sh.edges ≤ most_items)
  pub vertices : (1 ≤ sh.vertices) × (sh.vertices ≤ most_items)

-- a table that is sound where its vertex words are read as marks: 0 for free, any other for in use
pub record Marked (sh : Shape) (x : List ℕ) (p : List ℤ) : Type 0 where
  pub shape : sh ≡ shape_of x
  pub capacities : Capacities sh
  pub fit : Chained 0 (groups sh) (length x)
  pub points : length p ≡ points_length sh.vertices
  pub sound : Sound sh p (own sh x)

-- the word of each vertex in use is 1 plus the number of half-edges that start there
abbrev pub Valent : Shape → List ℕ → Type 0
Valent sh x = (v : ℕ) → In sh.vertices v → own sh x VertexUsed v ≢ 0 → own sh x VertexUsed v ≡ 1 + starts_at sh x v

-- a good table
pub record Good (sh : Shape) (x : List ℕ) (p : List ℤ) : Type 0 where
  pub shape : sh ≡ shape_of x
  pub capacities : Capacities sh
  pub fit : Chained 0 (groups sh) (length x)
  pub points : length p ≡ points_length sh.vertices
  pub sound : Sound sh p (own sh x)
  pub valent : Valent sh x

-- without its words
abbrev pub marked : {sh : Shape} {x : List ℕ} {p : List ℤ} → Good sh x p → Marked sh x p
marked g = record {
  shape = g.shape;
  capacities = g.capacities;
  fit = g.fit;
  points = g.points;
  sound = g.sound;
}

-- and with them
pub worded : {sh : Shape} {x : List ℕ} {p : List ℤ} → Marked sh x p → Valent sh x → Good sh x p
worded m v = record {
  shape = m.shape;
  capacities = m.capacities;
  fit = m.fit;
  points = m.points;
  sound = m.sound;
  valent = v;
}

-- it shows its own columns
pub marked_shows : {sh : Shape} {x : List ℕ} {p : List ℤ} → Marked sh x p → Shows sh x (own sh x)
marked_shows {sh} {x} g = shows_own sh x g.fit

pub good_shows : {sh : Shape} {x : List ℕ} {p : List ℤ} → Good sh x p → Shows sh x (own sh x)
good_shows {sh} {x} g = shows_own sh x g.fit

-- a table that shows sound columns, with the capacities and the number of coordinates of a marked one, is marked
pub marked_after : {sh : Shape} {x y : List ℕ} {p q : List ℤ} {d : Columns} → Marked sh x p → Shows sh y d
    → ((n : ℕ) → d Capacity n ≡ own sh x Capacity n) → length q ≡ length p → Sound sh q d → Marked sh y q
marked_after {sh} {x} {y} {p} {q} {d} g s e l a = record {
  shape =
      rw (
        s.at Capacity 1 (lit≤ tt) ∙ e 1,
        s.at Capacity 2 (lit≤ tt) ∙ e 2,
        s.at Capacity 3 (lit≤ tt) ∙ e 3,
        s.at Capacity 4 (lit≤ tt) ∙ e 4,
        s.at Capacity 5 (lit≤ tt) ∙ e 5,
      )
      g.shape;
  capacities = g.capacities;
  fit = s.fit;
  points = l ∙ g.points;
  sound = sound_agree sh q (λ F n h. s.at F n h) a;
}
