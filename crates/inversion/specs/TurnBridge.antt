-- C's turn by mekr and kev, whole: two lone loops of the root become one.
use Rattle.std.specs.Prelude.{◌≡◌, ◌≢◌, ◌⊎◌, true, false, List, [], ◌∷◌, ℕ, suc, ◌+◌, ◌-◌, ◌*◌, ◌≤◌, ◌<◌, eqb, ℤ}
use Rattle.std.proofs.Math.Path.{refl}
use Rattle.std.proofs.Common.{sym, ap, ◌∙◌, subst, inl, inr, arith, eqb→eq, T_not}
use Rattle.std.proofs.lemmas.Bool.{false≢true}
use Rattle.laws.specs.Bools.{split, true_T, eqb_same}
use Rattle.layout.specs.declared.shape.Shape.{Shape}
use Rattle.layout.specs.Mate.{mate}
use Rattle.layout.specs.MateLaws.{mate_odd}
use Rattle.euler.specs.Queries.{faces_in}
use Rattle.euler.specs.Exec.{refusal_of, marks_after, links_after, inverse}
use Rattle.layout.specs.Fields.{Loop, SolidUsed, Solid, Outer, Face, First, Isolated, Start, Next, VertexUsed}
use Rattle.layout.specs.Items.{is_ring, face_in}
use Rattle.sound_tables.specs.Sound.{In, HalfUsed}
use Rattle.sound_tables.specs.Names.{free_zero}
use Rattle.sound_tables.specs.Cells.{Shows}
use Rattle.sound_tables.specs.WriteLaws.{with_column}
use Rattle.sound_tables.specs.Good.{Good, own, marked}
use Rattle.sound_spurs.specs.KevAccepted.{kev_points, kev_points_lem, kev_accepted}
use Rattle.sound_bridges.specs.Relation.{Bridge, Ends, Bridged}
use Rattle.sound_bridges.specs.MekrColumns.{mekr_columns, up_bridged}
use Rattle.sound_bridges.specs.MekrShown.{mekr_shows}
use Rattle.sound_bridges.specs.MekrAccepted.{MekrFacts, mekr_accepted, mekr_links_lem, mekr_points}
use Rattle.sound_valence.specs.Kept.{links_shown}
use Rattle.sound_operators.specs.Theorems.{all_hold}
use Rattle.takedown.specs.Inversion.{solid_at, free_edge, edges_left, is_ring_of, ring_of, mekr, kev}
use Rattle.inversion.specs.Path.{path_good, Path, there, first, acted, joins_in}
use Rattle.inversion.specs.Counts.{solids, faces, loops, edges, vertices, is_stray, strays, count_le_by}
use Rattle.inversion.specs.Same.{words_same, words_fewer, solids_is, faces_is, loops_is, vertices_is}
use Rattle.inversion.specs.Same.{free_face_same, stray_same, face_or_none, vertices_by_marks}
use Rattle.inversion.specs.EdgeOut.{edge_fewer}
use Rattle.inversion.specs.OfSolid.{least_some, least_there, both}
use Rattle.inversion.specs.Root.{root_is, outer_in, outer_face, lone_loop, no_ring}
use Rattle.inversion.specs.Gone.{kev_goes, kev_loop, kev_outer}
use Rattle.inversion.specs.KevLaws.{KevLaw, kev_law}
use Rattle.inversion.specs.Turn.{RingAt, Ready, Change, TurnMade}
use Rattle.inversion.specs.TurnShape.{turned_c}

-- ring l of the table x, which holds no half-edge of its solid, is gone from the table y; half-edges, other loops,
-- faces and solids stay
pub record Bare (sh : Shape) (x y : List ℕ) (l : ℕ) : Type 0 where
  pub mark : (n : ℕ) → In sh.solids n → own sh y SolidUsed n ≡ own sh x SolidUsed n
  pub solid : (n : ℕ) → In sh.faces n → own sh y Solid n ≡ own sh x Solid n
  pub face_gone : own sh y Face l ≡ 0
  pub face : (n : ℕ) → In sh.loops n → n ≢ l → own sh y Face n ≡ own sh x Face n
  pub outer : (n : ℕ) → In sh.faces n → own sh y Outer n ≡ own sh x Outer n
  pub half_free : (i : ℕ) → In (2 * sh.edges) i → own sh y Start i ≡ 0 → own sh y Loop i ≡ 0
  pub half : (i : ℕ) → HalfUsed sh (own sh y) i → HalfUsed sh (own sh x) i
      × ((own sh x Loop i ≡ l) ⊎ ((own sh x Loop i ≢ l) × (own sh y Loop i ≡ own sh x Loop i)))

-- mekr is undone by kemr, kev by mev: no faces are joined
no_join : (sh : Shape) (x : List ℕ) (p : List ℤ) (o l e k : ℕ) → joins_in sh x p (mekr o l e ∷ kev k ∷ []) ≡ 0
unfolding inverse
no_join sh x p o l e k = refl

-- the halves of edge e
low_mate : (e : ℕ) → 1 ≤ e → mate (2 * e - 1) ≡ 2 * e
low_mate e h = mate_odd (2 * e - 1) (omega arith) ∙ omega arith

-- ---- two lone loops o and l of one face, l a ring, and a free edge e

module _ {sh : Shape} {x : List ℕ} {p : List ℤ} (g : Good sh x p) {o l e u1 u2 : ℕ}
    (r : MekrFacts sh (own sh x) o 0 l 0 e 0)
    (i1 : own sh x Isolated o ≡ u1) (v1 : In sh.vertices u1) (w1 : own sh x VertexUsed u1 ≢ 0)
    (i2 : own sh x Isolated l ≡ u2) (v2 : In sh.vertices u2) (w2 : own sh x VertexUsed u2 ≢ 0) where
  abbrev k : ℕ
  k = 2 * e - 1

  -- both halves are free
  range : In (2 * sh.edges) (2 * e - 1) × In (2 * sh.edges) (mate (2 * e - 1))
  range =
      let m = low_mate e r.edge_in_range.0 in (
        (omega (arith, r.edge_in_range.0), omega (arith, r.edge_in_range.1)),
        rw m (omega (arith, r.edge_in_range.0), omega (arith, r.edge_in_range.1)),
      )

  free_m : own sh x Start (mate (2 * e - 1)) ≡ 0
  free_m = ap (own sh x Start) (low_mate e r.edge_in_range.0) ∙ r.edge_free

  free_k : own sh x Start (2 * e - 1) ≡ 0
  free_k =
      split (own sh x Start (2 * e - 1)) 0 (λ z. z)
      (λ d. absurd ((g.sound.rules.mate_in (2 * e - 1) (range.0.0, range.0.1, d)).2 free_m))

  -- the bridge: both its corners are isolated
  abbrev bridge : Bridge
  bridge = record {
    k = 2 * e - 1;
    l = o;
    l2 = l;
    u1 = u1;
    P1 = mate (2 * e - 1);
    N1 = 2 * e - 1;
    u2 = u2;
    P2 = 2 * e - 1;
    N2 = mate (2 * e - 1);
  }

  ends : Ends sh (own sh x) bridge
  ends = record {
    half_in = range.0;
    mate_in = range.1;
    loop_in = r.loop_in;
    ring_in = r.ring_in;
    two = r.two;
    used = r.loop_used;
    one_face = sym r.one_face;
    ring = r.ring;
    at_1 = inl (record { before = refl; after = refl; isolated = i1 });
    at_2 = inl (record { before = refl; after = refl; isolated = i2 });
    in_1 = v1;
    in_2 = v2;
    used_1 = w1;
    used_2 = w2;
    zero_k = free_zero g.sound (2 * e - 1) range.0 free_k;
    zero_a = free_zero g.sound (mate (2 * e - 1)) range.1 free_m;
    keeps = g.sound.rules.loops.keeps;
  }

  -- the table between
  abbrev x₁ : List ℕ
  x₁ = links_after sh x (mekr o l e)

  accepted₁ : refusal_of sh x (mekr o l e) ≡ 0
  accepted₁ = mekr_accepted sh x g.capacities r

  good₁ : Good sh (links_after sh x (mekr o l e)) p
  good₁ = subst (Good sh (links_after sh x (mekr o l e))) (mekr_points sh x g.capacities r p)
      (all_hold sh x p (mekr o l e) g refl accepted₁).0

  -- its columns
  marks_shown : Shows sh (marks_after sh x (mekr o l e)) (mekr_columns sh (own sh x) bridge)
  marks_shown = subst (λ t. Shows sh t (mekr_columns sh (own sh x) bridge))
      (sym (mekr_links_lem sh x g.capacities r (2 * e - 1) refl ∙ rw (i1, i2))) (mekr_shows (marked g) ends)

  -- with the words of vertices
  v : Shows sh (links_after sh x (mekr o l e)) (with_column (mekr_columns sh (own sh x) bridge) VertexUsed
      (own sh (links_after sh x (mekr o l e)) VertexUsed))
  v = links_shown (mekr o l e) g refl accepted₁ marks_shown

  b : Bridged sh (own sh x) (mekr_columns sh (own sh x) bridge) bridge
  b = up_bridged ends

  -- k is a spur there
  used₁ : HalfUsed sh (own sh x₁) (2 * e - 1)
  used₁ = (
    range.0.0,
    range.0.1,
    λ z. omega (arith, v1.0, sym b.start_k ∙ sym (v.at Start (2 * e - 1) range.0.1) ∙ z),
  )

  next₁ : own sh x₁ Next (2 * e - 1) ≡ mate (2 * e - 1)
  next₁ = v.at Next (2 * e - 1) range.0.1 ∙ b.next_k

  law : KevLaw sh x₁ (links_after sh x₁ (kev (2 * e - 1))) (2 * e - 1)
  law = kev_law good₁ used₁ next₁

  abbrev y : List ℕ
  y = links_after sh x₁ (kev (2 * e - 1))

  -- ---- what is counted

  solid₂ : (n : ℕ) → In sh.faces n → own sh y Solid n ≡ own sh x Solid n
  solid₂ n i = law.solid n i ∙ v.at Solid n i.1 ∙ b.others Solid refl n

  face_gone : own sh y Face l ≡ 0
  face_gone = law.face l r.ring_in ∙ v.at Face l r.ring_in.1 ∙ b.face_2

  face₂ : (n : ℕ) → In sh.loops n → n ≢ l → own sh y Face n ≡ own sh x Face n
  face₂ n i d = law.face n i ∙ v.at Face n i.1 ∙ b.face_o n d

  gone_off : (n : ℕ) → own sh y Face n ≡ 0 → is_stray sh y n ≡ true → false ≡ true
  gone_off n q t = rw q at t

  strays₂ : strays sh y ≤ strays sh x
  strays₂ = count_le_by sh.loops _ _ (λ n a c t. split n l
      (λ q. absurd (false≢true (gone_off n (ap (own sh y Face) q ∙ face_gone) t)))
      (λ d. sym (stray_same sh x y solid₂ n (own sh x Face n) (face₂ n (a, c) d) refl (face_or_none g n (a, c))) ∙ t))

  -- one edge more between
  edges₁ : suc (edges sh x) ≡ edges sh x₁
  edges₁ =
      edge_fewer sh x₁ x (2 * e - 1) range.0 used₁.2
      (λ z. omega (arith, v2.0, sym b.start_a ∙ sym (v.at Start (mate (2 * e - 1)) range.1.1) ∙ z)) free_k
      free_m
      (λ i j c d. sym (v.at Start i j.1 ∙ b.start_o i c d))

  same_vertices₁ : vertices sh x₁ ≡ vertices sh x
  same_vertices₁ = vertices_by_marks (mekr o l e) g refl accepted₁ ∙ vertices_is sh _
      ∙ words_same sh.vertices _ _ (λ n i. marks_shown.at VertexUsed n i.1 ∙ b.others VertexUsed refl n)
      ∙ sym (vertices_is sh x)

  pub bridge_less : edges sh y + vertices sh y < edges sh x + vertices sh x
  bridge_less = omega (arith, same_vertices₁, edges₁, law.fewer_edges, law.fewer_vertices)

  pub bridge_change : (RingAt sh x → ⊥) → Change sh x y 2 0
  bridge_change never =
      let cs : solids sh x₁ ≡ solids sh x = solids_is sh _
      ∙ words_same sh.solids _ _ (λ n i. v.at SolidUsed n i.1 ∙ b.others SolidUsed refl n)
      ∙ sym (solids_is sh x) in
      let cf : faces sh x₁ ≡ faces sh x = faces_is sh _ ∙ words_same sh.faces _ _ (λ n i. v.at Solid n i.1
      ∙ b.others Solid refl n) ∙ sym (faces_is sh x) in
      let cl : suc (loops sh x₁) ≡ loops sh x = ap suc (loops_is sh _)
      ∙ words_fewer sh.loops _ _ l r.ring_in (v.at Face l r.ring_in.1
      ∙ b.face_2) r.ring_used (λ n i d. v.at Face n i.1 ∙ b.face_o n d) ∙ sym (loops_is sh x) in
      let cv = same_vertices₁ in
      let K = law in
      record {
        euler = omega (
          arith,
          cs,
          cf,
          cl,
          cv,
          edges₁,
          K.same_solids,
          K.same_faces,
          K.same_loops,
          K.fewer_edges,
          K.fewer_vertices,
        );
        paid = inl (omega (arith, cs, cl, cv, K.same_solids, K.same_loops, K.fewer_vertices, strays₂));
        back = λ z. absurd (never z);
      }

  pub bridge_ready : Ready sh x → Ready sh y
  bridge_ready ready = record {
    face = λ z. ready.face (sym (free_face_same sh x y solid₂) ∙ z);
    edge = least_there sh.edges (λ n. eqb (own sh y Start (2 * n)) 0) e r.edge_in_range
        (eqb_same (ap (own sh y Start) (sym (low_mate e r.edge_in_range.0)) ∙ law.gone_b));
    loop = inl (least_there sh.loops (λ n. eqb (own sh y Face n) 0) l r.ring_in (eqb_same face_gone));
  }

  pub bridge_path : Path sh y (kev_points sh x₁ p (2 * e - 1)) (mekr o l e ∷ kev (2 * e - 1) ∷ []) x p
  bridge_path =
      let rest : Path sh y (kev_points sh x₁ p (2 * e - 1)) (kev (2 * e - 1) ∷ []) x₁ p =
      first (kev (2 * e - 1)) refl (kev_accepted (marked good₁) used₁ next₁)
      (there refl (kev_points_lem (marked good₁) used₁ next₁)) in
      first {os = kev (2 * e - 1) ∷ []} {p = p} (mekr o l e) refl accepted₁
      (rw (mekr_points sh x g.capacities r p) rest)

  -- what is known of it
  pub bridge_bare : Bare sh x y l
  bridge_bare = record {
    mark = λ n i. law.mark n i ∙ v.at SolidUsed n i.1 ∙ b.others SolidUsed refl n;
    solid = solid₂;
    face_gone = face_gone;
    face = face₂;
    outer = λ n i. kev_outer good₁ used₁ next₁ n i ∙ v.at Outer n i.1 ∙ b.others Outer refl n;
    half_free = λ i j z. ((path_good g bridge_path).sound.half_free i j z).loop;
    half = λ i w.
        let c = (kev_goes good₁ used₁ next₁).edge.used i w in
        let el = kev_loop good₁ used₁ next₁ i w ∙ v.at Loop i w.1 in (
          (w.0, w.1, λ z. c.0.2 (v.at Start i w.1 ∙ b.start_o i c.1 c.2 ∙ z)),
          split (own sh x Loop i) l (λ q. inl q) (λ q. inr (q, el ∙ b.loop_o i c.1 c.2 q)),
        );
  }

-- ---- the turn

module _ {sh : Shape} {x : List ℕ} {p : List ℤ} (g : Good sh x p) (free : free_edge sh x ≢ 0) (sn : solid_at sh x ≢ 0)
    (one : faces_in sh x (solid_at sh x) ≡ 1)
    (left : edges_left sh x (solid_at sh x) ≡ false) (some : ring_of sh x (face_in sh x (solid_at sh x)) ≢ 0) where
  -- what the search says
  pub found : In sh.loops (ring_of sh x (face_in sh x (solid_at sh x)))
      × (own sh x Face (ring_of sh x (face_in sh x (solid_at sh x))) ≡ face_in sh x (solid_at sh x))
      × (own sh x Outer (own sh x Face (ring_of sh x (face_in sh x (solid_at sh x))))
      ≢ ring_of sh x (face_in sh x (solid_at sh x)))
  found =
      let f = face_in sh x (solid_at sh x) in
      let l = ring_of sh x f in
      let q = least_some sh.loops (is_ring_of sh x f) some in
      let t = both (eqb (own sh x Face l) f) (is_ring sh x l) q.1 in (
        q.0,
        eqb→eq _ _ (true_T t.0),
        λ e. T_not (eqb (own sh x Outer (own sh x Face l)) l) (true_T t.1) (true_T (eqb_same e)),
      )

  root_some : face_in sh x (solid_at sh x) ≢ 0
  root_some z = omega (arith, (root_is g sn).range.0, z)

  -- a loop of the root is lone
  lone_of : (m : ℕ) → In sh.loops m → own sh x Face m ≡ face_in sh x (solid_at sh x) → (own sh x First m ≡ 0)
      × In sh.vertices (own sh x Isolated m) × (own sh x VertexUsed (own sh x Isolated m) ≢ 0)
  lone_of m i q = lone_loop g sn left m i (λ z. root_some (sym q ∙ z)) (ap (own sh x Solid) q ∙ (root_is g sn).label)

  facts : MekrFacts sh (own sh x) (own sh x Outer (face_in sh x (solid_at sh x))) 0
      (ring_of sh x (face_in sh x (solid_at sh x))) 0 (free_edge sh x) 0
  facts =
      let f = face_in sh x (solid_at sh x) in
      let q = least_some sh.edges (λ n. eqb (own sh x Start (2 * n)) 0) free in
      let a = lone_of (own sh x Outer f) (outer_in g sn) (outer_face g sn) in
      let c = lone_of (ring_of sh x f) found.0 found.1 in
      record {
        loop_in = outer_in g sn;
        loop_used = λ z. root_some (sym (outer_face g sn) ∙ z);
        at_1 = inl (refl, λ z. omega (arith, a.1.0, z));
        ring_in = found.0;
        ring_used = λ z. root_some (sym found.1 ∙ z);
        at_2 = inl (refl, λ z. omega (arith, c.1.0, z));
        edge_in_range = q.0;
        edge_free = eqb→eq _ _ (true_T q.1);
        way = omega arith;
        two = λ z. found.2 (ap (own sh x Outer) found.1 ∙ z);
        one_face = outer_face g sn ∙ sym found.1;
        ring = found.2;
      }

  -- what is known of the table afterwards
  pub turn_bare : Bare sh x
      (links_after sh
      (links_after sh x (mekr (own sh x Outer (face_in sh x (solid_at sh x)))
      (ring_of sh x (face_in sh x (solid_at sh x)))
      (free_edge sh x))) (kev (2 * free_edge sh x - 1))) (ring_of sh x (face_in sh x (solid_at sh x)))
  turn_bare =
      let a = lone_of (own sh x Outer (face_in sh x (solid_at sh x))) (outer_in g sn) (outer_face g sn) in
      let c = lone_of (ring_of sh x (face_in sh x (solid_at sh x))) found.0 found.1 in
      bridge_bare g facts refl a.1 a.2 refl c.1 c.2

  pub turn_bridge : TurnMade sh x p
  unfolding acted
  turn_bridge =
      let f = face_in sh x (solid_at sh x) in
      let o = own sh x Outer f in
      let l = ring_of sh x f in
      let e = free_edge sh x in
      let a = lone_of o (outer_in g sn) (outer_face g sn) in
      let c = lone_of l found.0 found.1 in
      record {
        os = mekr o l e ∷ kev (2 * e - 1) ∷ [];
        y = _;
        q = _;
        path = bridge_path g facts refl a.1 a.2 refl c.1 c.2;
        same = λ w q z. turned_c sh (solid_at sh x) f w x q one left some;
        change =
            rw (no_join sh x p o l e (2 * e - 1)) (bridge_change g facts refl a.1 a.2 refl c.1 c.2
            (λ z. no_ring g sn left z.2));
        less = bridge_less g facts refl a.1 a.2 refl c.1 c.2;
        ready = bridge_ready g facts refl a.1 a.2 refl c.1 c.2;
      }
