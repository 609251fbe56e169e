-- kemr on the columns: c is sound where d is, and where c has the rules with dummies (`KemrRules`) and the firsts of
-- its two loops.
use Rattle.std.specs.Prelude.{◌≡◌, refl, ◌≢◌, List, ℕ, ◌+◌, ◌*◌, ℤ}
use Rattle.std.proofs.Common.{sym, ap, ◌∙◌, subst, ⊎_elim, arith}
use Rattle.laws.specs.Bools.{split}
use Rattle.laws.specs.Search.{least_ext}
use Rattle.laws.specs.Linked.{same, link, map_linked}
use Rattle.layout.specs.declared.shape.Shape.{Shape}
use Rattle.layout.specs.Mate.{mate}
use Rattle.layout.specs.MateLaws.{mate_mate}
use Rattle.layout.specs.Fields.{Solid, Outer, Face, First, Isolated, Start, Loop, Next, Prev, VertexUsed, SolidUsed}
use Rattle.layout.specs.Fields.{Columns}
use Rattle.sound_tables.specs.Mates.{mate⁺}
use Rattle.sound_tables.specs.EdgeIn.{Rules}
use Rattle.sound_tables.specs.Solids.{Solids}
use Rattle.sound_tables.specs.Sound.{In, HalfUsed, FaceUsed, side, first_of, LoopSound, HalfSound, HalfFree, Sound}
use Rattle.sound_tables.specs.Sound.{half_by_lem}
use Rattle.sound_tables.specs.Names.{lone_kept}
use Rattle.sound_tables.specs.WithDummies.{extended, Member, Corners, sound_corners, corners_rules, corners_loop}
use Rattle.sound_tables.specs.WithDummies.{corners_vertex}
use Rattle.sound_bridges.specs.CornerMembers.{LoopMember, VertexMember, half_loop, lone_loop, of_loop}
use Rattle.sound_bridges.specs.CornerMembers.{half_vertex, lone_vertex, of_vertex, corner_members}
use Rattle.sound_bridges.specs.Relation.{Corner, Bridge, derived, HasCorner, Bridged}
use Rattle.sound_bridges.specs.Relation.{corner_before, corner_after, off_k, off_a, half_stays, half_back}
use Rattle.sound_bridges.specs.Relation.{dummy_other, dummy_was, side_same, side_k, side_a, same_name}

module _ {sh : Shape} {p : List ℤ} {c d : Columns} {B : Bridge} (a : Sound sh p d) (b : Bridged sh c d B)
    (rules⁺ : Rules (2 * sh.edges + sh.loops) (mate⁺ sh.edges) (Member sh c) (extended sh c))
    (first-1 : c First B.l ≡ first_of sh c B.l) (first-2 : c First B.l2 ≡ first_of sh c B.l2) where
  open derived sh B use {n}
  open B use {k, l, l2, u1, u2}
  open b.ends use {loop_in, ring_in, two, one_face, at_1, at_2, in_1, in_2, used_1, used_2, zero_k, zero_a}
  open b use {start_k, start_a, start_o, loop_k, loop_a, loop_2, loop_o, next_o, prev_o, face_2, face_o}
  open b use {first_o, isolated_o, others}

  -- ---- members of loops and vertices

  -- the members at the two corners
  members_1 : LoopMember sh c l × VertexMember sh c u1
  members_1 = corner_members sh c loop_in (λ z. omega (arith, in_1.0, z)) at_1

  -- and at the other
  members_2 : LoopMember sh c l2 × VertexMember sh c u2
  members_2 = corner_members sh c ring_in (λ z. omega (arith, in_2.0, z)) at_2

  -- another loop of c has a member
  loop_member : (m : ℕ) → m ≢ l → LoopMember sh d m → LoopMember sh c m
  loop_member m x q = of_loop sh d q
      (λ i w f.
      let ik : i ≢ k = λ z. x (sym f ∙ ap (d Loop) z ∙ loop_k) in
      let ia : i ≢ mate k = λ z. x (sym f ∙ ap (d Loop) z ∙ loop_a) in
      let i2 : c Loop i ≢ l2 = λ z. x (sym f ∙ loop_2 i (w.0, w.1) z) in
      half_loop sh c i (half_back b i w ik ia) (sym (loop_o i ik ia i2) ∙ f))
      (λ i w f. lone_loop sh c i (dummy_was b i w) f)

  -- a vertex of c has one
  vertex_member : (v : ℕ) → VertexMember sh d v → VertexMember sh c v
  vertex_member v q = of_vertex sh d q
      (λ i w f. split i k (λ z. subst (VertexMember sh c) (sym start_k ∙ ap (d Start) (sym z) ∙ f) members_1.1)
      (λ z. split i (mate k) (λ y. subst (VertexMember sh c) (sym start_a ∙ ap (d Start) (sym y) ∙ f) members_2.1)
      (λ y. half_vertex sh c i (half_back b i w z y) (sym (start_o i z y) ∙ f))))
      (λ i w f. let e = dummy_other b i w in
      lone_vertex sh c i (dummy_was b i w) (sym (isolated_o _ e.0 e.1) ∙ f))

  -- another loop in use in c is in use in d
  face_was : (m : ℕ) → m ≢ l2 → c Face m ≢ 0 → d Face m ≢ 0
  face_was m x h z = h (sym (face_o m x) ∙ z)

  -- the form with dummies
  c_corners : Corners sh c
  c_corners = record {
    rules = rules⁺;
    loop = λ m i h. split m l (λ e. subst (LoopMember sh c) (sym e) members_1.0)
        (λ e. split m l2 (λ f. subst (LoopMember sh c) (sym f) members_2.0)
        (λ f. loop_member m e ((sound_corners a).loop m i (face_was m f h))));
    vertex = λ w i h. vertex_member w ((sound_corners a).vertex w i (λ z. h (sym (others VertexUsed refl w) ∙ z)));
  }

  -- ---- loops

  -- a vertex in use in d is so in c
  used : (w : ℕ) → d VertexUsed w ≢ 0 → c VertexUsed w ≢ 0
  used w x z = x (others VertexUsed refl w ∙ z)

  -- and a face
  solid_back : (f : ℕ) → d Solid f ≢ 0 → c Solid f ≢ 0
  solid_back f x z = x (others Solid refl f ∙ z)

  -- at a corner of the two
  corner_used : {s : Corner} → HasCorner sh c s → In sh.vertices s.u → c VertexUsed s.u ≢ 0
      → c Isolated s.l ≢ 0
      → In sh.vertices (c Isolated s.l) × (c VertexUsed (c Isolated s.l) ≢ 0)
  corner_used q i x h =
      ⊎_elim (λ r.
      (subst (In sh.vertices) (sym r.isolated) i, λ z. x (ap (c VertexUsed) (sym r.isolated) ∙ z)))
      (λ r. absurd (h r.isolated)) q

  -- an isolated vertex is in use
  isolated_used : (m : ℕ) → In sh.loops m → c Isolated m ≢ 0
      → In sh.vertices (c Isolated m) × (c VertexUsed (c Isolated m) ≢ 0)
  isolated_used m y h = split m l
      (λ e. subst (λ m. c Isolated m ≢ 0 → In sh.vertices (c Isolated m) × (c VertexUsed (c Isolated m) ≢ 0)) (sym e)
      (corner_used at_1 in_1 used_1) h)
      (λ e. split m l2
      (λ f. subst (λ m. c Isolated m ≢ 0 → In sh.vertices (c Isolated m) × (c VertexUsed (c Isolated m) ≢ 0)) (sym f)
      (corner_used at_2 in_2 used_2) h)
      (λ f. lone_kept a c m y (sym (isolated_o m e f)) used h))

  -- a free half-edge is all zero
  c_half_free : (i : ℕ) → In n i → c Start i ≡ 0 → HalfFree sh c i
  c_half_free i j z = split i k
      (λ e. record
      { loop = ap (c Loop) e ∙ zero_k.l; next = ap (c Next) e ∙ zero_k.n; prev = ap (c Prev) e ∙ zero_k.p })
      (λ e. split i (mate k)
      (λ f. record
      { loop = ap (c Loop) f ∙ zero_a.l; next = ap (c Next) f ∙ zero_a.n; prev = ap (c Prev) f ∙ zero_a.p })
      (λ f.
      let r = a.half_free i j (start_o i e f ∙ z) in
      let g : c Loop i ≢ l2 = λ q. omega (arith, loop_in.0, sym (loop_2 i j q) ∙ r.loop) in
      record {
        loop = sym (loop_o i e f g) ∙ r.loop;
        next = sym (next_o i e f (corner_before at_1 f z) (corner_before at_2 e z)) ∙ r.next;
        prev = sym (prev_o i e f (corner_after at_1 e z) (corner_after at_2 f z)) ∙ r.prev;
      }))

  -- the face of both loops
  l_loop : LoopSound sh d l
  l_loop = a.loop l loop_in (face_was l two b.ends.used)

  -- from a loop of d in the same face
  loop_by : (m m' : ℕ) → In sh.loops m → c Face m ≢ 0 → c Face m ≡ d Face m' → LoopSound sh d m'
      → c First m ≡ first_of sh c m → LoopSound sh c m
  loop_by m m' y h e r f = record {
    face_in_lem = subst (In sh.faces) (sym e) r.face_in_lem;
    face_used = λ z. solid_back _ r.face_used (ap (c Solid) (sym e) ∙ z);
    first = f;
    either = corners_loop c_corners (λ i j z. (c_half_free i j z).loop) m y h f (isolated_used m y);
  }

  -- a loop in use is sound
  c_loop : (m : ℕ) → In sh.loops m → c Face m ≢ 0 → LoopSound sh c m
  c_loop m y h = split m l
      (λ e. loop_by m l y h (ap (c Face) e ∙ sym (face_o l two)) l_loop
      (ap (c First) e ∙ first-1 ∙ ap (first_of sh c) (sym e)))
      (λ e. split m l2
      (λ f. loop_by m l y h (ap (c Face) f ∙ one_face ∙ sym (face_o l two)) l_loop
      (ap (c First) f ∙ first-2 ∙ ap (first_of sh c) (sym f)))
      (λ f.
      let r = a.loop m y (face_was m f h) in
      loop_by m m y h (sym (face_o m f)) r (sym (first_o m e f) ∙ r.first
      ∙ sym (least_ext n _ _ (λ i w z. same_name b m y e f i (w, z))))))

  -- ---- half-edges

  -- a half-edge in use is sound
  c_half : (i : ℕ) → HalfUsed sh c i → HalfSound sh c i
  c_half i w =
      let v = half_stays b i w in
      let r = a.half i (v.0, v.1) v.2 in
      let es : d Start i ≡ c Start i = start_o i (off_k b i w) (off_a b i w) in
      let by : (m : ℕ) → c Loop i ≡ m → In sh.loops m → c Face m ≢ 0 → HalfSound sh c i = λ m em x y.
      half_by_lem (d Start i) m (sym es) em r.start_in (used _ r.start_used) x y in
      split (c Loop i) l2
      (λ e. by l2 e ring_in (λ z. b.ends.used (sym one_face ∙ z)))
      (λ e.
      let f : d Loop i ≡ c Loop i = loop_o i (off_k b i w) (off_a b i w) e in
      by (d Loop i) (sym f) r.loop_in (λ z. r.loop_used (face_o _ (λ q. e (sym f ∙ q)) ∙ z)))

  -- ---- faces

  -- equal faces have one solid, in either table
  solid_of : {f g : ℕ} → f ≡ g → c Solid f ≡ d Solid g
  solid_of {f} {g} e = ap (c Solid) e ∙ sym (others Solid refl g)

  -- what the bridge has on its sides is one face
  one_side : (i : ℕ) → (i ≡ k) → side d i ≡ side d (mate i)
  one_side i e = ap (side d) e ∙ side_k b ∙ sym (side_a b) ∙ ap (λ j. side d (mate j)) (sym e)

  -- from its other half as well
  other_side : (i : ℕ) → (i ≡ mate k) → side d i ≡ side d (mate i)
  other_side i e = ap (side d) e ∙ side_a b ∙ sym (side_k b) ∙ ap (side d) (sym (mate_mate k))
      ∙ ap (λ j. side d (mate j)) (sym e)

  -- mates of c are of c
  mate_back : (i : ℕ) → HalfUsed sh c i → HalfUsed sh c (mate i)
  mate_back i w = half_back b (mate i) (a.rules.mate_in i (half_stays b i w))
      (λ e. off_a b i w (sym (mate_mate i) ∙ ap mate e))
      (λ e. off_k b i w (sym (mate_mate i) ∙ ap mate e ∙ mate_mate k))

  -- rule 6: what the bridge linked was one face already
  c_solids : Solids (HalfUsed sh c) (FaceUsed sh c) (side c) mate (c Solid)
  c_solids = record {
    side_in_lem = λ i w. let f = a.solids.side_in_lem i (half_stays b i w) in
        subst (FaceUsed sh c) (side_same b i w) (f.0, f.1, solid_back _ f.2);
    edge = λ i w. solid_of (sym (side_same b (mate i) (mate_back i w))) ∙ a.solids.edge i (half_stays b i w)
        ∙ sym (solid_of (sym (side_same b i w)));
    one = λ f g x y e. map_linked (λ i. i)
        (λ i j (h, u, e, e'). split h k (λ z. same (sym e ∙ one_side h z ∙ e'))
        (λ z. split h (mate k) (λ y. same (sym e ∙ other_side h y ∙ e'))
        (λ y. let w = half_back b h u z y in
        link (h, w, sym (side_same b h w) ∙ e, sym (side_same b (mate h) (mate_back h w)) ∙ e'))))
        (a.solids.one f g (x.0, x.1, λ z. x.2 (sym (others Solid refl f) ∙ z))
        (y.0, y.1, λ z. y.2 (sym (others Solid refl g) ∙ z)) (others Solid refl f ∙ e ∙ sym (others Solid refl g)));
  }

  -- the table without the bridge is sound
  pub down_sound : Sound sh p c
  down_sound = record {
    solid_mark = λ s i. rw (← others SolidUsed refl s) (a.solid_mark s i);
    solid = λ s i h. let r = a.solid s i (λ z. h (sym (others SolidUsed refl s) ∙ z)) in
        (r.0, r.1, sym (others Solid refl r.0) ∙ r.2);
    face_free = λ f i h. sym (others Outer refl f) ∙ a.face_free f i (others Solid refl f ∙ h);
    face = λ f i h.
        let r = a.face f i (λ z. h (sym (others Solid refl f) ∙ z)) in
        let o : c Outer f ≢ l2 =
        λ e. omega (arith, i.0, sym r.outer_face ∙ ap (d Face) (others Outer refl f ∙ e) ∙ face_2) in
        record {
          solid_in = subst (In sh.solids) (others Solid refl f) r.solid_in;
          solid_used_lem = λ z. r.solid_used_lem (others SolidUsed refl _ ∙ ap (c SolidUsed) (others Solid refl f) ∙ z);
          outer_in = subst (In sh.loops) (others Outer refl f) r.outer_in;
          outer_face = sym (face_o _ o) ∙ ap (d Face) (sym (others Outer refl f)) ∙ r.outer_face;
        };
    loop_free = λ m i h.
        let f : m ≢ l = λ q. b.ends.used (ap (c Face) (sym q) ∙ h) in
        let e : m ≢ l2 = λ q. b.ends.used (sym one_face ∙ ap (c Face) (sym q) ∙ h) in
        let r = a.loop_free m i (face_o m e ∙ h) in
        (sym (first_o m f e) ∙ r.0, sym (isolated_o m f e) ∙ r.1);
    loop = c_loop;
    half_free = c_half_free;
    half = λ i j h. c_half i (j.0, j.1, h);
    vertex = corners_vertex c_corners;
    point = λ w i. let r = a.point w i in
        record { range = r.range; zero = λ h. r.zero (others VertexUsed refl w ∙ h) };
    rules = corners_rules c_corners;
    solids = c_solids;
  }
