-- mekr on the columns: d is sound where c is, and where d has the rules with dummies (`MekrRules`) and the first of its
-- loop.
use Rattle.std.specs.Prelude.{◌≡◌, refl, ◌≢◌, List, ℕ, ◌+◌, ◌-◌, ◌*◌, ℤ}
use Rattle.std.proofs.Common.{sym, ap, ◌∙◌, subst, ⊎_elim, arith}
use Rattle.laws.specs.Bools.{split}
use Rattle.laws.specs.Search.{least_ext}
use Rattle.laws.specs.Linked.{link, map_linked}
use Rattle.layout.specs.declared.shape.Shape.{Shape}
use Rattle.layout.specs.Mate.{mate}
use Rattle.layout.specs.MateLaws.{mate_mate}
use Rattle.layout.specs.Fields.{Solid, Outer, Face, First, Isolated, Start, Loop, VertexUsed, SolidUsed, Columns}
use Rattle.sound_tables.specs.Mates.{mate⁺}
use Rattle.sound_tables.specs.EdgeIn.{Rules}
use Rattle.sound_tables.specs.Solids.{Solids}
use Rattle.sound_tables.specs.Sound.{In, HalfUsed, FaceUsed, side, first_of, LoopSound, HalfSound, HalfFree, Sound}
use Rattle.sound_tables.specs.Sound.{half_by_lem}
use Rattle.sound_tables.specs.Names.{lone_kept}
use Rattle.sound_tables.specs.WithDummies.{extended, Dummy, Member, Corners, sound_corners, corners_rules, corners_loop}
use Rattle.sound_tables.specs.WithDummies.{corners_vertex}
use Rattle.sound_bridges.specs.CornerMembers.{LoopMember, VertexMember, half_loop, lone_loop, of_loop}
use Rattle.sound_bridges.specs.CornerMembers.{half_vertex, lone_vertex, of_vertex}
use Rattle.sound_bridges.specs.Relation.{Corner, Bridge, derived, HasCorner, Bridged}
use Rattle.sound_bridges.specs.Relation.{corner_before, corner_after, off_k, off_a, new_k, new_a, half_stays}
use Rattle.sound_bridges.specs.Relation.{half_was, free_loop, dummy_stays, side_same, side_k, side_a, same_name}

module _ {sh : Shape} {p : List ℤ} {c d : Columns} {B : Bridge} (a : Sound sh p c) (b : Bridged sh c d B)
    (rules⁺ : Rules (2 * sh.edges + sh.loops) (mate⁺ sh.edges) (Member sh d) (extended sh d))
    (first-1 : d First B.l ≡ first_of sh d B.l) (first-2 : d First B.l2 ≡ 0) where
  open derived sh B use {n}
  open B use {k, l, l2, u1, u2}
  open b.ends use {mate_in, loop_in, two, ring, at_1, at_2, in_1, in_2, used_1, used_2}
  open b use {start_k, start_a, start_o, loop_k, loop_a, loop_2, loop_o, next_o, prev_o, face_2, face_o}
  open b use {first_o, isolated_1, isolated_2, isolated_o, others}

  -- ---- members of loops and vertices

  -- a loop of d has a member
  loop_member : (m : ℕ) → m ≢ l2 → LoopMember sh c m → LoopMember sh d m
  loop_member m x q = of_loop sh c q
      (λ i w f. half_loop sh d i (half_stays b i w) (loop_o i (off_k b i w) (off_a b i w) (λ z. x (sym f ∙ z)) ∙ f))
      (λ i w f. split (i - n) l (λ z. half_loop sh d k (new_k b) (loop_k ∙ sym z ∙ f))
      (λ z. lone_loop sh d i (dummy_stays b i z (λ y. x (sym f ∙ y)) w) f))

  -- a dummy of an isolated corner is at its vertex
  at_lone : {s : Corner} → HasCorner sh c s → (i : ℕ) → i - n ≡ s.l → Dummy sh c i → c Isolated (i - n) ≡ s.u
  at_lone q i z w = ⊎_elim (λ r. ap (c Isolated) z ∙ r.isolated)
      (λ r. absurd (w.2 (ap (c Isolated) z ∙ r.isolated))) q

  -- a vertex of d has a member
  vertex_member : (v : ℕ) → VertexMember sh c v → VertexMember sh d v
  vertex_member v q = of_vertex sh c q
      (λ i w f. half_vertex sh d i (half_stays b i w) (start_o i (off_k b i w) (off_a b i w) ∙ f))
      (λ i w f. split (i - n) l
      (λ z. half_vertex sh d k (new_k b) (start_k ∙ sym (at_lone at_1 i z w) ∙ f))
      (λ z. split (i - n) l2
      (λ y. half_vertex sh d (mate k) (new_a b) (start_a ∙ sym (at_lone at_2 i y w) ∙ f))
      (λ y. lone_vertex sh d i (dummy_stays b i z y w) (isolated_o _ z y ∙ f))))

  -- a loop in use in d was in use in c
  face_was : (m : ℕ) → d Face m ≢ 0 → (m ≢ l2) × (c Face m ≢ 0)
  face_was m h = let x : m ≢ l2 = λ e. h (ap (d Face) e ∙ face_2) in (x, λ z. h (face_o m x ∙ z))

  -- the form with dummies
  d_corners : Corners sh d
  d_corners = record {
    rules = rules⁺;
    loop = λ m i h. let x = face_was m h in loop_member m x.0 ((sound_corners a).loop m i x.1);
    vertex = λ w i h. vertex_member w ((sound_corners a).vertex w i (λ z. h (others VertexUsed refl w ∙ z)));
  }

  -- ---- loops

  -- a vertex in use stays so
  used : (w : ℕ) → c VertexUsed w ≢ 0 → d VertexUsed w ≢ 0
  used w x z = x (sym (others VertexUsed refl w) ∙ z)

  -- a face in use stays so
  solid_stays : (f : ℕ) → c Solid f ≢ 0 → d Solid f ≢ 0
  solid_stays f x z = x (sym (others Solid refl f) ∙ z)

  -- an isolated vertex is in use
  isolated_used : (m : ℕ) → In sh.loops m → d Isolated m ≢ 0
      → In sh.vertices (d Isolated m) × (d VertexUsed (d Isolated m) ≢ 0)
  isolated_used m y h =
      let e : m ≢ l = λ z. h (ap (d Isolated) z ∙ isolated_1) in
      let f : m ≢ l2 = λ z. h (ap (d Isolated) z ∙ isolated_2) in
      lone_kept a d m y (isolated_o m e f) used h

  -- a half-edge free in d is free in c
  free_half : (i : ℕ) → d Start i ≡ 0 → (i ≢ k) × (i ≢ mate k) × (c Start i ≡ 0)
  free_half i z =
      let e : i ≢ k = λ w. omega (arith, in_1.0, sym start_k ∙ ap (d Start) (sym w) ∙ z) in
      let f : i ≢ mate k = λ w. omega (arith, in_2.0, sym start_a ∙ ap (d Start) (sym w) ∙ z) in
      (e, f, sym (start_o i e f) ∙ z)

  -- a free half-edge is all zero
  d_half_free : (i : ℕ) → In n i → d Start i ≡ 0 → HalfFree sh d i
  d_half_free i j z =
      let w = free_half i z in
      let r = a.half_free i j w.2 in
      record {
        loop = loop_o i w.0 w.1 (free_loop b i r.loop) ∙ r.loop;
        next = next_o i w.0 w.1 (corner_before at_1 w.1 w.2) (corner_before at_2 w.0 w.2) ∙ r.next;
        prev = prev_o i w.0 w.1 (corner_after at_1 w.0 w.2) (corner_after at_2 w.1 w.2) ∙ r.prev;
      }

  -- a loop in use is sound
  d_loop : (m : ℕ) → In sh.loops m → d Face m ≢ 0 → LoopSound sh d m
  d_loop m y h =
      let x = face_was m h in
      let r = a.loop m y x.1 in
      let e : d Face m ≡ c Face m = face_o m x.0 in
      let f : d First m ≡ first_of sh d m = split m l (λ e. ap (d First) e ∙ first-1 ∙ ap (first_of sh d) (sym e))
      (λ e. first_o m e x.0 ∙ r.first ∙ least_ext n _ _ (λ i w z. same_name b m y e x.0 i (w, z))) in
      record {
        face_in_lem = subst (In sh.faces) (sym e) r.face_in_lem;
        face_used = λ z. solid_stays _ r.face_used (ap (d Solid) (sym e) ∙ z);
        first = f;
        either = corners_loop d_corners (λ i j z. (d_half_free i j z).loop) m y h f (isolated_used m y);
      }

  -- ---- half-edges

  -- from the values of start and loop
  half_at : (i s m : ℕ) → d Start i ≡ s → d Loop i ≡ m → In sh.vertices s → c VertexUsed s ≢ 0 → In sh.loops m
      → c Face m ≢ 0 → m ≢ l2 → HalfSound sh d i
  half_at i s m es em x y z w v = half_by_lem s m es em x (used s y) z (λ g. w (sym (face_o m v) ∙ g))

  -- a half-edge in use is sound
  d_half : (i : ℕ) → HalfUsed sh d i → HalfSound sh d i
  d_half = half_was b
      (half_at k u1 l start_k loop_k in_1 used_1 loop_in b.ends.used two)
      (half_at (mate k) u2 l start_a loop_a in_2 used_2 loop_in b.ends.used two)
      (λ i w. let r = a.half i (w.0, w.1) w.2 in let es = start_o i (off_k b i w) (off_a b i w) in
      split (c Loop i) l2
      (λ e. half_at i (c Start i) l es (loop_2 i (w.0, w.1) e) r.start_in r.start_used loop_in
      b.ends.used two)
      (λ e. half_at i (c Start i) (c Loop i) es (loop_o i (off_k b i w) (off_a b i w) e) r.start_in r.start_used
      r.loop_in r.loop_used e))

  -- ---- faces

  -- a face of c is one of d
  face_stays : (f : ℕ) → FaceUsed sh c f → FaceUsed sh d f
  face_stays f w = (w.0, w.1, solid_stays f w.2)

  -- the face of l is in use
  l_face : FaceUsed sh d (c Face l)
  l_face = let r = a.loop l loop_in b.ends.used in face_stays _ (r.face_in_lem.0, r.face_in_lem.1, r.face_used)

  -- equal faces have one solid, in either table
  solid_of : {f g : ℕ} → f ≡ g → d Solid f ≡ c Solid g
  solid_of {f} {g} e = ap (d Solid) e ∙ others Solid refl g

  -- rule 6: the new edge has one face on both sides
  d_solids : Solids (HalfUsed sh d) (FaceUsed sh d) (side d) mate (d Solid)
  d_solids = record {
    side_in_lem = half_was b (subst (FaceUsed sh d) (sym (side_k b)) l_face)
        (subst (FaceUsed sh d) (sym (side_a b)) l_face)
        (λ i w. subst (FaceUsed sh d) (sym (side_same b i w)) (face_stays _ (a.solids.side_in_lem i w)));
    edge = half_was b
        (ap (d Solid) (side_a b ∙ sym (side_k b)))
        (ap (d Solid) (ap (side d) (mate_mate k) ∙ side_k b ∙ sym (side_a b)))
        (λ i w. solid_of (side_same b (mate i) (a.rules.mate_in i w)) ∙ a.solids.edge i w
        ∙ sym (solid_of (side_same b i w)));
    one = λ f g x y e. map_linked (λ i. i)
        (λ i j (h, w, e, e'). link
        (h, half_stays b h w, side_same b h w ∙ e, side_same b (mate h) (a.rules.mate_in h w) ∙ e'))
        (a.solids.one f g (x.0, x.1, λ z. x.2 (others Solid refl f ∙ z))
        (y.0, y.1, λ z. y.2 (others Solid refl g ∙ z)) (sym (others Solid refl f) ∙ e ∙ others Solid refl g));
  }

  -- the table with the bridge is sound
  pub up_sound : Sound sh p d
  up_sound = record {
    solid_mark = λ s i. rw (others SolidUsed refl s) (a.solid_mark s i);
    solid = λ s i h. let r = a.solid s i (λ z. h (others SolidUsed refl s ∙ z)) in
        (r.0, r.1, others Solid refl r.0 ∙ r.2);
    face_free = λ f i h. others Outer refl f ∙ a.face_free f i (sym (others Solid refl f) ∙ h);
    face = λ f i h.
        let r = a.face f i (λ z. h (others Solid refl f ∙ z)) in
        let o : c Outer f ≢ l2 = λ e. ring (ap (c Outer) (ap (c Face) (sym e) ∙ r.outer_face) ∙ e) in
        record {
          solid_in = subst (In sh.solids) (sym (others Solid refl f)) r.solid_in;
          solid_used_lem = λ z. r.solid_used_lem
              (sym (others SolidUsed refl _) ∙ ap (d SolidUsed) (sym (others Solid refl f))
              ∙ z);
          outer_in = subst (In sh.loops) (sym (others Outer refl f)) r.outer_in;
          outer_face = ap (d Face) (others Outer refl f) ∙ face_o _ o ∙ r.outer_face;
        };
    loop_free = λ m i h. split m l2
        (λ e. (ap (d First) e ∙ first-2, ap (d Isolated) e ∙ isolated_2))
        (λ e.
        let z : c Face m ≡ 0 = sym (face_o m e) ∙ h in
        let f : m ≢ l = λ q. b.ends.used (ap (c Face) (sym q) ∙ z) in
        let r = a.loop_free m i z in
        (first_o m f e ∙ r.0, isolated_o m f e ∙ r.1));
    loop = d_loop;
    half_free = d_half_free;
    half = λ i j h. d_half i (j.0, j.1, h);
    vertex = corners_vertex d_corners;
    point = λ w i. let r = a.point w i in
        record { range = r.range; zero = λ h. r.zero (sym (others VertexUsed refl w) ∙ h) };
    rules = corners_rules d_corners;
    solids = d_solids;
  }
