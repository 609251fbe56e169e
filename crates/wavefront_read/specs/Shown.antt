-- What the text of a solid shows, for every table that passes the check and every solid that is not refused: the faces
-- turned round, the vertices by rank, and how long the text can be. (What a reader finds in it: `ReadBack`. That all of
-- it is so: TextShows in proofs/.)
use Rattle.std.specs.Prelude.{◌≡◌, ◌↔◌, List, [], map, ℕ, ◌+◌, ◌-◌, ◌*◌, ◌≤◌, ◌<◌, ℤ, length, get_or}
use Rattle.layout.specs.declared.shape.Shape.{Shape}
use Rattle.layout.specs.Layout.{face_solid, loop_face, loop_isolated, start_of, side}
use Rattle.sound_tables.specs.Sound.{In, HalfUsed}
use Rattle.sound_tables.specs.Good.{own}
use Rattle.wavefront.specs.Obj.{own_vertices, own_faces, rank, backwards, obj_text}
use Rattle.wavefront_read.specs.ReadBack.{point_of, points_of, cycle_of, cycles_of}
use Rattle.wavefront_read.specs.Laps.{Among, turn_round}
use Rattle.wavefront_read.specs.TurnedRound.{FaceRound, onwards}
use Rattle.wavefront_read.specs.Passing.{Rising}
use Rattle.wavefront_read.specs.Ranks.{OwnVertex}

-- the vertex cycle of face f as the table has it: the starts of its half-edges, by rank
abbrev pub table_cycle : Shape → List ℕ → ℕ → ℕ → List ℕ
table_cycle sh x s f = map (λ k. rank sh x s (start_of sh x k)) (onwards sh x f)

-- what the text of solid s shows
pub record TextShows (sh : Shape) (x : List ℕ) (p : List ℤ) (s : ℕ) : Type 0 where
  -- ONE F LINE PER FACE, BY NUMBER: the faces of the solid and no others, rising
  pub faces : (f : ℕ) → Among f (own_faces sh x s) ↔ (In sh.faces f × (face_solid sh x f ≡ s))
  pub faces_rise : Rising (own_faces sh x s)
  -- ONE V LINE PER VERTEX, BY NUMBER: the vertices of the solid and no others, rising
  pub vertices : (v : ℕ) → Among v (own_vertices sh x s) ↔ OwnVertex sh x s v
  pub vertices_rise : Rising (own_vertices sh x s)
  -- EACH FACE IS ONE LOOP, WRITTEN BACKWARDS: from its first half-edge along next and round, all its half-edges, each
  -- once, three at least
  pub loops : (f : ℕ) → In sh.faces f → face_solid sh x f ≡ s → FaceRound sh x f
  -- THE CYCLES ARE THE TABLE'S, TURNED ROUND
  pub cycles : cycles_of sh x s ≡ map (λ f. turn_round (table_cycle sh x s f)) (own_faces sh x s)
  -- A RANK NAMES ITS VERTEX: the vertex of rank i is the i-th that is written
  pub named : (v : ℕ) → OwnVertex sh x s v
      → (get_or (own_vertices sh x s) (rank sh x s v - 1) 0 ≡ v) × (1 ≤ rank sh x s v)
      × (rank sh x s v ≤ length (own_vertices sh x s))
  -- TWO VERTICES HAVE TWO RANKS
  pub apart : (v w : ℕ) → OwnVertex sh x s v → OwnVertex sh x s w → rank sh x s v ≡ rank sh x s w → v ≡ w
  -- EVERY VERTEX LINE IS A VERTEX OF THE SOLID: every number from 1 on up to how many there are is a rank
  pub onto : (i : ℕ) → 1 ≤ i → i ≤ length (own_vertices sh x s)
      → OwnVertex sh x s (get_or (own_vertices sh x s) (i - 1) 0)
      × (rank sh x s (get_or (own_vertices sh x s) (i - 1) 0) ≡ i)
  -- EVERY VERTEX IS A CORNER of a face
  pub used : (v : ℕ) → OwnVertex sh x s v
      → (f : ℕ) × In sh.faces f × (face_solid sh x f ≡ s) × Among (rank sh x s v) (cycle_of sh x s f)
  -- EVERY INDEX IS A RANK: none leads to no vertex
  pub index : (f : ℕ) → In sh.faces f → face_solid sh x f ≡ s → (j : ℕ) → Among j (cycle_of sh x s f)
      → (v : ℕ) × OwnVertex sh x s v × (rank sh x s v ≡ j)
  -- THE POINT FOUND AT AN INDEX IS THE CORNER'S
  pub corners : (f : ℕ) → In sh.faces f → face_solid sh x f ≡ s
      → map (λ j. get_or (points_of sh x p s) (j - 1) []) (cycle_of sh x s f)
      ≡ map (λ k. point_of p (start_of sh x k)) (backwards sh x f)
  -- NO VERTEX IS LEFT OUT: where a half-edge of the solid starts is one of those above, and no loop of the solid has an
  -- isolated one
  pub starts : (k : ℕ) → HalfUsed sh (own sh x) k → face_solid sh x (side sh x k) ≡ s
      → OwnVertex sh x s (start_of sh x k)
  pub none_isolated : (l : ℕ) → In sh.loops l → face_solid sh x (loop_face sh x l) ≡ s → loop_isolated sh x l ≡ 0
  -- NO TEXT IS EMPTY
  pub some : 0 < length (obj_text sh x p s)
  -- THE LENGTH: 26 bytes for each vertex, 2 for each face, 5 for each half-edge of the table, at most
  pub size : length (obj_text sh x p s) ≤ 26 * sh.vertices + 2 * sh.faces + 5 * (2 * sh.edges)
  -- so 155,648 bytes are enough for any table
  pub longest : length (obj_text sh x p s) ≤ 155648
