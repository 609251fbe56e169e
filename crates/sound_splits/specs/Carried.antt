-- Soundness carried from columns c to columns d that differ in half-edges and vertices only: each half-edge of one has
-- a half-edge of the other that lies in the same loop, and its mate in the loop of the other's mate.
use Rattle.std.specs.Prelude.{◌≡◌, refl, ◌≢◌, false, List, ℕ, ◌*◌, ◌≤◌, ℤ}
use Rattle.std.proofs.Common.{sym, ap, ◌∙◌, subst, inl, inr, arith}
use Rattle.laws.specs.Bools.{split}
use Rattle.laws.specs.Linked.{link, map_linked}
use Rattle.layout.specs.declared.shape.Shape.{Shape}
use Rattle.layout.specs.Mate.{mate}
use Rattle.layout.specs.Fields.{Field, SolidUsed, Solid, Outer, Face, Isolated, Start, Loop, VertexUsed, Columns, among}
use Rattle.sound_tables.specs.EdgeIn.{Rules}
use Rattle.sound_tables.specs.Solids.{Solids}
use Rattle.sound_tables.specs.Sound.{In, halves, HalfUsed, FaceUsed, side, first_of, FaceSound, FirstOrIsolated}
use Rattle.sound_tables.specs.Sound.{LoopSound, HalfSound, VertexSound, alone, joined, PointSound, Sound}
use Rattle.sound_tables.specs.Labels.{label_found, label_some, label_none, none_label}
use Rattle.sound_splits.specs.Relation.{Tidy, sound_tidy, moved}

-- each half-edge of d has one of c in its loop, with its mate in the loop of its mate
abbrev pub Matched : Shape → Columns → Columns → Type 0
Matched sh c d = (i : ℕ) → HalfUsed sh d i → (j : ℕ) × HalfUsed sh c j × (d Loop i ≡ c Loop j)
    × (d Loop (mate i) ≡ c Loop (mate j))

-- a half-edge starts at w
abbrev pub Started : Shape → Columns → ℕ → Type 0
Started sh c w = (i : ℕ) × In (2 * sh.edges) i × (c Start i ≡ w)

-- a half-edge lies in loop l
abbrev Named : Shape → Columns → ℕ → Type 0
Named sh c l = (i : ℕ) × In (2 * sh.edges) i × (c Loop i ≡ l)

-- a half-edge of d in l is matched by one of c
named_by : {sh : Shape} (c d : Columns) → Tidy sh d → Matched sh c d → (l : ℕ) → 1 ≤ l → Named sh d l → Named sh c l
named_by c d t m l h s = split (d Start s.0) 0
    (λ z. absurd (omega (arith, h, s.2, (t.half s.0 s.1 z).loop)))
    (λ u. let j = m s.0 (s.1.0, s.1.1, u) in (j.0, (j.1.0, j.1.1), sym j.2 ∙ s.2))

-- a vertex of both, where the same start there and the same are isolated
pub vertex_carried : {sh : Shape} {c d : Columns} (w : ℕ) → ((l : ℕ) → d Isolated l ≡ c Isolated l)
    → (Started sh c w → Started sh d w) → (Started sh d w → Started sh c w)
    → VertexSound sh c w → VertexSound sh d w
vertex_carried w e to from (alone l i q u s) = alone l i (e l ∙ q) (λ l' i' q'. u l' i' (sym (e l') ∙ q'))
    (λ k j z. let y = from (k, j, z) in s y.0 y.1 y.2)
vertex_carried w e to from (joined s k j q) = let y = to (k, j, q) in joined (λ l i z. s l i (sym (e l) ∙ z)) y.0
    y.1 y.2

module _ {sh : Shape} {p : List ℤ} {c d : Columns} (a : Sound sh p c)
    (same : (F : Field) → among moved F ≡ false → (i : ℕ) → d F i ≡ c F i)
    (lone : (l : ℕ) → d Isolated l ≡ c Isolated l) (t : Tidy sh d)
    (md : Matched sh c d) (mc : Matched sh d c) where
  -- the side of what is matched
  side_by : {i j : ℕ} → d Loop i ≡ c Loop j → side d i ≡ side c j
  side_by {i} {j} e = same Face refl (d Loop i) ∙ ap (c Face) e

  -- a face in use in one is in use in the other
  face_to : (f : ℕ) → FaceUsed sh c f → FaceUsed sh d f
  face_to f u = (u.0, u.1, λ z. u.2 (sym (same Solid refl f) ∙ z))

  -- and back
  face_from : (f : ℕ) → FaceUsed sh d f → FaceUsed sh c f
  face_from f u = (u.0, u.1, λ z. u.2 (same Solid refl f ∙ z))

  -- rule 6: a shared edge is matched by a shared edge
  carried_solids : Solids (HalfUsed sh d) (FaceUsed sh d) (side d) mate (d Solid)
  carried_solids = record {
    side_in_lem = λ i u. let j = md i u in subst (FaceUsed sh d) (sym (side_by j.2))
        (face_to _ (a.solids.side_in_lem j.0 j.1));
    edge = λ i u. let j = md i u in
        ap (d Solid) (side_by j.3) ∙ same Solid refl _ ∙ a.solids.edge j.0 j.1 ∙ sym (same Solid refl _)
        ∙ ap (d Solid) (sym (side_by j.2));
    one = λ f g u w e. map_linked (λ i. i)
        (λ f g s. let j = mc s.0 s.1 in
        link (j.0, j.1, side_by (sym j.2) ∙ s.2, side_by (sym j.3) ∙ s.3))
        (a.solids.one f g (face_from f u) (face_from g w) (sym (same Solid refl f) ∙ e ∙ same Solid refl g));
  }

  -- a face
  carried_face : (f : ℕ) → In sh.faces f → FaceSound sh c f → FaceSound sh d f
  carried_face f i r = record {
    solid_in = rw (same Solid refl f) r.solid_in;
    solid_used_lem = rw (same Solid refl f, same SolidUsed refl (c Solid f)) r.solid_used_lem;
    outer_in = rw (same Outer refl f) r.outer_in;
    outer_face = rw (same Outer refl f, same Face refl (c Outer f)) r.outer_face;
  }

  module _ (isolated : (l : ℕ) → In sh.loops l → c Isolated l ≢ 0 → c VertexUsed (c Isolated l) ≢ 0
      → d VertexUsed (c Isolated l) ≢ 0) where
    -- first half-edge or isolated vertex, as before
    carried_either : (l : ℕ) → In sh.loops l → FirstOrIsolated sh c l → FirstOrIsolated sh d l
    carried_either l i (inl y) =
        let b = label_found (2 * sh.edges) (c Loop) l (λ z. y.0 ((sound_tidy a).first l i ∙ z)) in
        let s = named_by d c (sound_tidy a) mc l i.0 (first_of sh c l, b.range, b.label) in
        inl ((λ z. label_some (2 * sh.edges) (d Loop) l s.0 s.1 s.2 (sym (t.first l i) ∙ z)), lone l ∙ y.1)
    carried_either l i (inr y) =
        let e = lone l in
        let h : c Isolated l ≢ 0 = λ z. omega (arith, y.1.0, z) in
        inr (
          t.first l i ∙ label_none (2 * sh.edges) (d Loop) l (λ k j z.
              let s = named_by c d t md l i.0 (k, j, z) in
              none_label (2 * sh.edges) (c Loop) l (sym ((sound_tidy a).first l i) ∙ y.0) s.0 s.1 s.2),
          subst (In sh.vertices) (sym e) y.1,
          (λ z. isolated l i h y.2 (ap (d VertexUsed) (sym e) ∙ z)),
        )

    -- a loop
    carried_loop : (l : ℕ) → In sh.loops l → LoopSound sh c l → LoopSound sh d l
    carried_loop l i r = record {
      face_in_lem = rw (same Face refl l) r.face_in_lem;
      face_used = rw (same Face refl l, same Solid refl (c Face l)) r.face_used;
      first = t.first l i;
      either = carried_either l i r.either;
    }

    -- a half-edge, if its start is in use
    carried_half : ((i : ℕ) → HalfUsed sh d i → In sh.vertices (d Start i) × (d VertexUsed (d Start i) ≢ 0))
        → (i : ℕ) → HalfUsed sh d i → HalfSound sh d i
    carried_half starts i u =
        let j = md i u in
        let r = a.half j.0 (j.1.0, j.1.1) j.1.2 in
        record {
          start_in = (starts i u).0;
          start_used = (starts i u).1;
          loop_in = subst (In sh.loops) (sym j.2) r.loop_in;
          loop_used = λ z. r.loop_used (sym (side_by j.2) ∙ z);
        }

    -- what is left to show are starts, vertices and their points, and rules 4 and 5
    pub carried : {q : List ℤ}
        → ((i : ℕ) → HalfUsed sh d i → In sh.vertices (d Start i) × (d VertexUsed (d Start i) ≢ 0))
        → ((v : ℕ) → In sh.vertices v → d VertexUsed v ≢ 0 → VertexSound sh d v)
        → ((v : ℕ) → In sh.vertices v → PointSound q d v)
        → Rules (2 * sh.edges) mate (HalfUsed sh d) (halves d) → Sound sh q d
    carried starts vertex points rules = record {
      solid_mark = λ s i. rw (same SolidUsed refl s) (a.solid_mark s i);
      solid = λ s i h. let r = a.solid s i (λ z. h (same SolidUsed refl s ∙ z)) in
          (r.0, r.1, same Solid refl r.0 ∙ r.2);
      face_free = λ f i h. same Outer refl f ∙ a.face_free f i (sym (same Solid refl f) ∙ h);
      face = λ f i h. carried_face f i (a.face f i (λ z. h (same Solid refl f ∙ z)));
      loop_free = λ l i h.
          let r = a.loop_free l i (sym (same Face refl l) ∙ h) in (
            t.first l i ∙ label_none (2 * sh.edges) (d Loop) l (λ k j z.
                let s = named_by c d t md l i.0 (k, j, z) in
                none_label (2 * sh.edges) (c Loop) l (sym ((sound_tidy a).first l i) ∙ r.0) s.0 s.1 s.2),
            lone l ∙ r.1,
          );
      loop = λ l i h. carried_loop l i (a.loop l i (λ z. h (same Face refl l ∙ z)));
      half_free = t.half;
      half = λ i j h. carried_half starts i (j.0, j.1, h);
      vertex = vertex;
      point = points;
      rules = rules;
      solids = carried_solids;
    }
