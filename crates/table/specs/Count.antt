-- Counting a sound table: solids, faces, loops, edges and vertices in use, rings, holes.
use Rattle.std.specs.Prelude.{ℕ, ◌+◌, ◌-◌, ◌*◌, ◌/◌, Bool, ◌&&◌, List, eqb, ℤ}
use Rattle.laws.specs.Bools.{pick}
use Rattle.laws.specs.Sums.{count_to}
use Rattle.layout.specs.declared.shape.Shape.{Shape}
use Rattle.layout.specs.Layout.{shape_of, solid_used, vertex_used}
use Rattle.layout.specs.Items.{some, face_used, loop_used, half_used, is_ring}
use Rattle.table.specs.declared.check.CheckAnswer.{CheckAnswer}
use Rattle.table.specs.declared.count.CountAnswer.{CountAnswer}
use Rattle.table.specs.Check.{check_of}

-- what is counted
pub data Item : Type 0 where
  Solid : Item
  Face : Item
  Loop : Item
  Edge : Item
  Vertex : Item
  Ring : Item

-- a ring is in use
abbrev pub ring_used : Shape → List ℕ → ℕ → Bool
ring_used sh x l = loop_used sh x l && is_ring sh x l

-- item n of a kind is in use
unfoldable pub item_used : Item → Shape → List ℕ → ℕ → Bool
item_used Solid sh x n = some (solid_used sh x n)
item_used Face sh x n = face_used sh x n
item_used Loop sh x n = loop_used sh x n
item_used Edge sh x n = half_used sh x (2 * n)
item_used Vertex sh x n = some (vertex_used sh x n)
item_used Ring sh x n = ring_used sh x n

-- how many of the items 1 to n of a kind are in use
abbrev pub used_to : Item → Shape → List ℕ → ℕ → ℕ
used_to item sh x n = count_to n (item_used item sh x)

-- the holes by Euler's formula, v − e + f = 2 (s − h) + r. Of a sound table that number is whole and not negative, so
-- that nothing is cut off here: theorem `count-holes` of crate inversion.
abbrev pub holes_of : ℕ → ℕ → ℕ → ℕ → ℕ → ℕ
holes_of s f e v r = (e + r + 2 * s - (v + f)) / 2

abbrev pub counts : ℕ → ℕ → ℕ → ℕ → ℕ → ℕ → ℕ → ℕ → ℕ → CountAnswer
counts refusal rule s f l e v r h =
    record {
      refusal = refusal;
      rule = rule;
      solids = s;
      faces = f;
      loops = l;
      edges = e;
      vertices = v;
      rings =
          r;
      holes = h;
    }

-- nothing counted
abbrev pub no_counts : ℕ → ℕ → CountAnswer
no_counts refusal rule = counts refusal rule 0 0 0 0 0 0 0

abbrev pub with_holes : ℕ → ℕ → ℕ → ℕ → ℕ → ℕ → CountAnswer
with_holes s f l e v r = counts 0 0 s f l e v r (holes_of s f e v r)

-- the counts of a table
unfoldable pub tally_of : Shape → List ℕ → CountAnswer
tally_of sh x =
    with_holes (used_to Solid sh x sh.solids) (used_to Face sh x sh.faces) (used_to Loop sh x sh.loops)
    (used_to Edge sh x sh.edges)
    (used_to Vertex sh x sh.vertices) (used_to Ring sh x sh.loops)

-- what the check refuses is not counted
abbrev pub count_after : CheckAnswer → List ℕ → CountAnswer
count_after a x = pick (eqb a.refusal 0) (tally_of (shape_of x) x) (no_counts a.refusal a.rule)

-- the answer of counting
unfoldable pub count_of : List ℕ → List ℤ → CountAnswer
count_of x p = count_after (check_of x p) x
