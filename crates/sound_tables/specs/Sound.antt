-- A sound table in plain words, over its columns. `Sound` is what the six rules say, with nothing said twice: next,
-- previous and start are two labelled permutations (`Rules`), first is a function of the loop column, and rule 6 is
-- `Solids`. Of a vertex word it says only whether it is 0; that it counts the half-edges is `Valent` in Good.
use Rattle.std.specs.Prelude.{◌≡◌, refl, false, ◌≢◌, ◌⊎◌, List, ℕ, ◌*◌, ◌≤◌, ◌<◌, T, eqb, ℤ, pos}
use Rattle.std.proofs.Common.{sym, ap, ◌∙◌, inl, inr, ⊎_elim}
use Rattle.laws.specs.Search.{least, least_ext}
use Rattle.laws.specs.Linked.{link, map_linked}
use Rattle.layout.specs.declared.shape.Shape.{Shape}
use Rattle.layout.specs.Mate.{mate}
use Rattle.layout.specs.Points.{point_width, coordinate, in_range}
use Rattle.layout.specs.Fields.{Field, SolidUsed, Solid, Outer, Face, First, Isolated, Start, Loop, Next, Prev}
use Rattle.layout.specs.Fields.{VertexUsed, Columns, cap_of, same_field}
use Rattle.sound_tables.specs.EdgeIn.{Halves, Rules}
use Rattle.sound_tables.specs.Dummies.{agree_rules}
use Rattle.sound_tables.specs.Solids.{Solids}

-- a number of an item: 1 up to the capacity
abbrev pub In : ℕ → ℕ → Type 0
In cap n = (1 ≤ n) × (n ≤ cap)

-- the four columns of the half-edges
abbrev pub halves : Columns → Halves
halves c = record { start = c Start; loop = c Loop; next = c Next; prev = c Prev }

-- half-edge k is in use
abbrev pub HalfUsed : Shape → Columns → ℕ → Type 0
HalfUsed sh c k = (1 ≤ k) × (k ≤ 2 * sh.edges) × (c Start k ≢ 0)

-- face f is in use
abbrev pub FaceUsed : Shape → Columns → ℕ → Type 0
FaceUsed sh c f = (1 ≤ f) × (f ≤ sh.faces) × (c Solid f ≢ 0)

-- the face that half-edge k lies in
abbrev pub side : Columns → ℕ → ℕ
side c k = c Face (c Loop k)

-- the least half-edge that names loop l, or 0
abbrev pub first_of : Shape → Columns → ℕ → ℕ
first_of sh c l = least (2 * sh.edges) (λ k. eqb (c Loop k) l)

module _ (sh : Shape) (c : Columns) where
  -- a face in use: its solid is in use, and its outer loop names it
  pub record FaceSound (f : ℕ) : Type 0 where
    pub solid_in : In sh.solids (c Solid f)
    pub solid_used_lem : c SolidUsed (c Solid f) ≢ 0
    pub outer_in : In sh.loops (c Outer f)
    pub outer_face : c Face (c Outer f) ≡ f

  -- a loop has a first half-edge or an isolated vertex, which is in use
  abbrev pub FirstOrIsolated : ℕ → Type 0
  FirstOrIsolated l = ((c First l ≢ 0) × (c Isolated l ≡ 0))
      ⊎ ((c First l ≡ 0) × In sh.vertices (c Isolated l) × (c VertexUsed (c Isolated l) ≢ 0))

  -- a loop in use: its face is in use
  pub record LoopSound (l : ℕ) : Type 0 where
    pub face_in_lem : In sh.faces (c Face l)
    pub face_used : c Solid (c Face l) ≢ 0
    pub first : c First l ≡ first_of sh c l
    pub either : FirstOrIsolated l

  -- a half-edge in use: its start and its loop are in use
  pub record HalfSound (k : ℕ) : Type 0 where
    pub start_in : In sh.vertices (c Start k)
    pub start_used : c VertexUsed (c Start k) ≢ 0
    pub loop_in : In sh.loops (c Loop k)
    pub loop_used : c Face (c Loop k) ≢ 0

  -- a free half-edge is all zero
  pub record HalfFree (k : ℕ) : Type 0 where
    pub loop : c Loop k ≡ 0
    pub next : c Next k ≡ 0
    pub prev : c Prev k ≡ 0

  -- a vertex in use is isolated in one loop and starts nothing, or is isolated in none and starts something
  pub data VertexSound (v : ℕ) : Type 0 where
    alone : (l : ℕ) → In sh.loops l → c Isolated l ≡ v → ((m : ℕ) → In sh.loops m → c Isolated m ≡ v → m ≡ l)
        → ((k : ℕ) → In (2 * sh.edges) k → c Start k ≢ v) → VertexSound v
    joined : ((m : ℕ) → In sh.loops m → c Isolated m ≢ v) → (k : ℕ) → In (2 * sh.edges) k → c Start k ≡ v
        → VertexSound v

-- a point: in range, and zero where its vertex is free
pub record PointSound (p : List ℤ) (c : Columns) (v : ℕ) : Type 0 where
  pub range : (i : ℕ) → i < point_width → T (in_range p v i)
  pub zero : c VertexUsed v ≡ 0 → (i : ℕ) → i < point_width → coordinate p v i ≡ pos 0

-- a sound table
pub record Sound (sh : Shape) (p : List ℤ) (c : Columns) : Type 0 where
  pub solid_mark : (s : ℕ) → In sh.solids s → c SolidUsed s ≤ 1
  pub solid : (s : ℕ) → In sh.solids s → c SolidUsed s ≢ 0 → (f : ℕ) × In sh.faces f × (c Solid f ≡ s)
  pub face_free : (f : ℕ) → In sh.faces f → c Solid f ≡ 0 → c Outer f ≡ 0
  pub face : (f : ℕ) → In sh.faces f → c Solid f ≢ 0 → FaceSound sh c f
  pub loop_free : (l : ℕ) → In sh.loops l → c Face l ≡ 0 → (c First l ≡ 0) × (c Isolated l ≡ 0)
  pub loop : (l : ℕ) → In sh.loops l → c Face l ≢ 0 → LoopSound sh c l
  pub half_free : (k : ℕ) → In (2 * sh.edges) k → c Start k ≡ 0 → HalfFree sh c k
  pub half : (k : ℕ) → In (2 * sh.edges) k → c Start k ≢ 0 → HalfSound sh c k
  pub vertex : (v : ℕ) → In sh.vertices v → c VertexUsed v ≢ 0 → VertexSound sh c v
  pub point : (v : ℕ) → In sh.vertices v → PointSound p c v
  pub rules : Rules (2 * sh.edges) mate (HalfUsed sh c) (halves c)
  pub solids : Solids (HalfUsed sh c) (FaceUsed sh c) (side c) mate (c Solid)

-- a half-edge is sound by its start and its loop
pub half_by_lem : {sh : Shape} {c : Columns} {k : ℕ} (v l : ℕ) → c Start k ≡ v → c Loop k ≡ l → In sh.vertices v
    → c VertexUsed v ≢ 0 → In sh.loops l → c Face l ≢ 0 → HalfSound sh c k
half_by_lem v l ev el iv uv il ul =
    record { start_in = rw ev iv; start_used = rw ev uv; loop_in = rw el il; loop_used = rw el ul }

-- a vertex depends on the isolated vertices and on the starts alone
pub vertex_same : {sh : Shape} {c d : Columns} → ((l : ℕ) → In sh.loops l → d Isolated l ≡ c Isolated l)
    → ((k : ℕ) → In (2 * sh.edges) k → d Start k ≡ c Start k) → {v : ℕ} → VertexSound sh c v → VertexSound sh d v
vertex_same e s (alone l i a b n) = alone l i (e l i ∙ a) (λ m j q. b m j (sym (e m j) ∙ q))
    (λ k j q. n k j (sym (s k j) ∙ q))
vertex_same e s (joined n k i a) = joined (λ m j q. n m j (sym (e m j) ∙ q)) k i (s k i ∙ a)

-- ---- what is said of columns is said of columns that agree up to the capacities; of the vertex words it is enough
-- that the same are 0

-- the vertices in use are the same in c and in d
abbrev pub SameUsed : Shape → Columns → Columns → Type 0
SameUsed sh c d = (v : ℕ) → v ≤ sh.vertices → (d VertexUsed v ≡ 0 → c VertexUsed v ≡ 0)
    × (c VertexUsed v ≡ 0 → d VertexUsed v ≡ 0)

-- all other columns agree
abbrev pub SameElse : Shape → Columns → Columns → Type 0
SameElse sh c d = (F : Field) → same_field VertexUsed F ≡ false → (n : ℕ) → n ≤ cap_of sh F → d F n ≡ c F n

module _ (sh : Shape) (p : List ℤ) {c d : Columns} (e : SameElse sh c d) (u : SameUsed sh c d) where
  -- a face
  face_agree : (f : ℕ) → In sh.faces f → FaceSound sh c f → FaceSound sh d f
  face_agree f i r = record {
    solid_in = rw (e Solid refl f i.1) r.solid_in;
    solid_used_lem = rw (e Solid refl f i.1, e SolidUsed refl (c Solid f) r.solid_in.1) r.solid_used_lem;
    outer_in = rw (e Outer refl f i.1) r.outer_in;
    outer_face = rw (e Outer refl f i.1, e Face refl (c Outer f) r.outer_in.1) r.outer_face;
  }

  -- a loop
  loop_agree : (l : ℕ) → In sh.loops l → LoopSound sh c l → LoopSound sh d l
  loop_agree l i r = record {
    face_in_lem = rw (e Face refl l i.1) r.face_in_lem;
    face_used = rw (e Face refl l i.1, e Solid refl (c Face l) r.face_in_lem.1) r.face_used;
    first = e First refl l i.1 ∙ r.first
        ∙ least_ext (2 * sh.edges) _ _ (λ k a b. ap (λ n. eqb n l) (sym (e Loop refl k b)));
    either = ⊎_elim (λ h. inl (rw (e First refl l i.1, e Isolated refl l i.1) h))
        (λ h. inr (rw (e First refl l i.1, e Isolated refl l i.1)
        (h.0, h.1, λ z. h.2 ((u (c Isolated l) h.1.1).0 z))))
        r.either;
  }

  -- a half-edge
  half_agree : (k : ℕ) → In (2 * sh.edges) k → HalfSound sh c k → HalfSound sh d k
  half_agree k i r = record {
    start_in = rw (e Start refl k i.1) r.start_in;
    start_used = rw (e Start refl k i.1) (λ z. r.start_used ((u (c Start k) r.start_in.1).0 z));
    loop_in = rw (e Loop refl k i.1) r.loop_in;
    loop_used = rw (e Loop refl k i.1, e Face refl (c Loop k) r.loop_in.1) r.loop_used;
  }

  -- the half-edges in use are the same
  half_to : (k : ℕ) → HalfUsed sh c k → HalfUsed sh d k
  half_to k u = (u.0, u.1, rw (e Start refl k u.1) u.2)

  -- and back
  half_from : (k : ℕ) → HalfUsed sh d k → HalfUsed sh c k
  half_from k u = (u.0, u.1, λ z. u.2 (e Start refl k u.1 ∙ z))

  module _ (s : Sound sh p c) where
    -- the side of a half-edge in use
    side_same : (k : ℕ) → HalfUsed sh c k → side d k ≡ side c k
    side_same k u = rw (e Loop refl k u.1, e Face refl (c Loop k) (s.half k (u.0, u.1) u.2).loop_in.1)

    -- rule 6
    solids_agree : Solids (HalfUsed sh d) (FaceUsed sh d) (side d) mate (d Solid)
    solids_agree = record {
      side_in_lem = λ k u. let v = half_from k u in let f = s.solids.side_in_lem k v in
          rw (side_same k v, e Solid refl (side c k) f.1) f;
      edge = λ k u. let v = half_from k u in let w = s.rules.mate_in k v in
          rw (
            side_same k v,
            side_same (mate k) w,
            e Solid refl (side c k) (s.solids.side_in_lem k v).1,
            e Solid refl (side c (mate k)) (s.solids.side_in_lem (mate k) w).1,
          ) (s.solids.edge k v);
      one = λ f g a b q. map_linked (λ i. i)
          (λ i j t.
          link (
            t.0,
            half_to t.0 t.1,
            side_same t.0 t.1 ∙ t.2,
            side_same (mate t.0) (s.rules.mate_in t.0 t.1) ∙ t.3,
          ))
          (s.solids.one f g (a.0, a.1, λ z. a.2 (e Solid refl f a.1 ∙ z))
          (b.0, b.1, λ z. b.2 (e Solid refl g b.1 ∙ z))
          (sym (e Solid refl f a.1) ∙ q ∙ e Solid refl g b.1));
    }

    -- all of it
    pub sound_alike : Sound sh p d
    sound_alike = record {
      solid_mark = λ n i. rw (e SolidUsed refl n i.1) (s.solid_mark n i);
      solid = λ n i h. let r = s.solid n i (λ z. h (e SolidUsed refl n i.1 ∙ z)) in
          (r.0, r.1, e Solid refl r.0 r.1.1 ∙ r.2);
      face_free = λ f i h. e Outer refl f i.1 ∙ s.face_free f i (sym (e Solid refl f i.1) ∙ h);
      face = λ f i h. face_agree f i (s.face f i (λ z. h (e Solid refl f i.1 ∙ z)));
      loop_free = λ l i h. let r = s.loop_free l i (sym (e Face refl l i.1) ∙ h) in
          (e First refl l i.1 ∙ r.0, e Isolated refl l i.1 ∙ r.1);
      loop = λ l i h. loop_agree l i (s.loop l i (λ z. h (e Face refl l i.1 ∙ z)));
      half_free = λ k i h. let r = s.half_free k i (sym (e Start refl k i.1) ∙ h) in
          record {
            loop = e Loop refl k i.1 ∙ r.loop;
            next = e Next refl k i.1 ∙ r.next;
            prev = e Prev refl k i.1 ∙ r.prev;
          };
      half = λ k i h. half_agree k i (s.half k i (λ z. h (e Start refl k i.1 ∙ z)));
      vertex = λ v i h. vertex_same (λ l j. e Isolated refl l j.1) (λ k j. e Start refl k j.1)
          (s.vertex v i (λ z. h ((u v i.1).1 z)));
      point = λ v i. record { range = (s.point v i).range; zero = λ h. (s.point v i).zero ((u v i.1).0 h) };
      rules = agree_rules s.rules half_to half_from (λ k u. e Start refl k u.1) (λ k u. e Loop refl k u.1)
          (λ k u. e Next refl k u.1) (λ k u. e Prev refl k u.1);
      solids = solids_agree;
    }

-- where all columns agree
pub sound_agree : (sh : Shape) (p : List ℤ) {c d : Columns} → ((F : Field) (n : ℕ) → n ≤ cap_of sh F → d F n ≡ c F n)
    → Sound sh p c → Sound sh p d
sound_agree sh p e = sound_alike sh p (λ F t. e F) (λ v i. (λ z. sym (e VertexUsed v i) ∙ z, λ z. e VertexUsed v i ∙ z))
