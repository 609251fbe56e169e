-- mekr and kemr, vertex words read as marks (`Marked`): a marked table stays marked, and each undoes the other to the
-- word. The crate's two theorems, `mekr_holds` and `kemr_holds`, stand at the end.
use Rattle.std.specs.Prelude.{◌≡◌, refl, ◌≢◌, List, ℕ, ◌*◌, ◌≤◌, eqb, ℤ, length}
use Rattle.std.proofs.Common.{sym, ap, ◌∙◌, subst, inl, inr, ⊎_elim, arith}
use Rattle.laws.specs.Bools.{pick, eqb_same, eqb_other}
use Rattle.script.specs.declared.Operator.{Operator}
use Rattle.layout.specs.declared.shape.Shape.{Shape}
use Rattle.layout.specs.Mate.{mate, edge_of}
use Rattle.layout.specs.MateLaws.{mate_range}
use Rattle.euler.specs.Surgery.{half_by, way_of}
use Rattle.euler.specs.Exec.{refusal_of}
use Rattle.sound_tables.specs.EdgeIn.{prev_in, next_prev}
use Rattle.layout.specs.Fields.{Outer, Face, Isolated, Start, Loop, Next, Prev, VertexUsed, Columns}
use Rattle.sound_tables.specs.Cells.{Shows, shows_ext}
use Rattle.sound_tables.specs.Sound.{In, HalfUsed, Sound}
use Rattle.sound_tables.specs.HalfNumbers.{edge_by, way_by, way_small, half_is, edge_in_range, second_half}
use Rattle.sound_tables.specs.Names.{not_isolated, lone_used, free_zero, free_halves}
use Rattle.sound_tables.specs.Good.{own, Marked, marked_shows}
use Rattle.sound_tables.specs.CornerTest.{CornerAt, corner_left}
use Rattle.sound_tables.specs.Undone.{Kept, Undone}
use Rattle.sound_bridges.specs.Relation.{Corner, HasCorner, found_at, corner1, corner2, Bridge, Ends, Bridged}
use Rattle.sound_bridges.specs.Relation.{off_k, off_a}
use Rattle.sound_bridges.specs.Unique.{Alike, down_same, up_same}
use Rattle.sound_bridges.specs.MekrColumns.{mekr_list, mekr_columns, up_bridged}
use Rattle.sound_bridges.specs.MekrShown.{mekr_sound, mekr_shows, mekr_good}
use Rattle.sound_bridges.specs.KemrColumns.{span_bridge, kemr_list, kemr_columns, Span, walk, down_bridged}
use Rattle.sound_bridges.specs.KemrShown.{kemr_sound, kemr_shows, kemr_good}
use Rattle.sound_bridges.specs.MekrAccepted.{mekr_of, corner_of, bridge_of, mekr_bridge, MekrFacts, mekr_said}
use Rattle.sound_bridges.specs.MekrAccepted.{mekr_accepted, mekr_links_lem, mekr_points}
use Rattle.sound_bridges.specs.KemrAccepted.{kemr_of, kemr_facts, kemr_accepted, kemr_links_lem, kemr_points}
use Rattle.sound_bridges.specs.KemrAccepted.{kemr_inverse_lem, mekr_inverse_lem}

-- ---- the corners of mekr

module _ {sh : Shape} {p : List ℤ} {c : Columns} (a : Sound sh p c) {l h : ℕ} (i : In sh.loops l)
    (q : CornerAt sh c l h) where
  -- a corner as the operator reads it
  corner_of_lem : (k b : ℕ) → HasCorner sh c (corner_of c l h k b)
  corner_of_lem k b = ⊎_elim
      (λ r. rw (eqb_same r.0) (inl (record { before = refl; after = refl; isolated = refl })))
      (λ r. let z : h ≢ 0 = λ e. omega (arith, r.0.0, e) in rw (eqb_other z) (inr (record {
        before = prev_in a.rules h r.0;
        after = r.0;
        next = next_prev a.rules h r.0;
        prev = refl;
        loop = r.1;
        start = refl;
        isolated = not_isolated a h r.0 r.1;
      }))) q

  -- its vertex is in use
  corner_vertex : In sh.vertices (pick (eqb h 0) (c Isolated l) (c Start h))
      × (c VertexUsed (pick (eqb h 0) (c Isolated l) (c Start h)) ≢ 0)
  corner_vertex = ⊎_elim
      (λ r. let s = lone_used a l i r.1 in rw (eqb_same r.0) (s.1, s.2))
      (λ r. let z : h ≢ 0 = λ e. omega (arith, r.0.0, e) in let s = a.half h (r.0.0, r.0.1) r.0.2 in
      rw (eqb_other z) (s.start_in, s.start_used)) q

-- ---- mekr

module _ {sh : Shape} {x : List ℕ} {p : List ℤ} (g : Marked sh x p) {l h1 l2 h2 e w : ℕ}
    (r : MekrFacts sh (own sh x) l h1 l2 h2 e w) {k : ℕ} (hk : half_by e w ≡ k) where
  -- the columns before
  abbrev c : Columns
  c = own sh x

  -- the bridge
  abbrev B : Bridge
  B = mekr_bridge (own sh x) k l h1 l2 h2

  -- both halves are free
  free : In (2 * sh.edges) k × (c Start k ≡ 0) × (c Start (mate k) ≡ 0)
  free = subst (λ j. In (2 * sh.edges) j × (c Start j ≡ 0) × (c Start (mate j) ≡ 0)) hk
      (free_halves g.sound e w r.edge_in_range r.edge_free)

  -- so mekr can be done
  pub mekr_ends : Ends sh (own sh x) (mekr_bridge (own sh x) k l h1 l2 h2)
  mekr_ends =
      let m = mate_range k sh.edges free.0.0 free.0.1 in
      let v1 = corner_vertex g.sound r.loop_in r.at_1 in
      let v2 = corner_vertex g.sound r.ring_in r.at_2 in
      record {
        half_in = free.0;
        mate_in = m;
        loop_in = r.loop_in;
        ring_in = r.ring_in;
        two = r.two;
        used = r.loop_used;
        one_face = sym r.one_face;
        ring = r.ring;
        at_1 = corner_of_lem g.sound r.loop_in r.at_1 k (mate k);
        at_2 = corner_of_lem g.sound r.ring_in r.at_2 (mate k) k;
        in_1 = v1.0;
        in_2 = v2.0;
        used_1 = v1.1;
        used_2 = v2.1;
        zero_k = free_zero g.sound k free.0 free.1;
        zero_a = free_zero g.sound (mate k) m free.2;
        keeps = g.sound.rules.loops.keeps;
      }

  -- the table stays marked
  pub mekr_kept : Kept sh x p (mekr_of l h1 l2 h2 e w)
  mekr_kept = rw (mekr_links_lem sh x g.capacities r k hk, mekr_points sh x g.capacities r p) (mekr_good g mekr_ends)

  -- the list afterwards
  abbrev y : List ℕ
  y = mekr_list sh x B

  -- the columns afterwards
  abbrev d : Columns
  d = mekr_columns sh (own sh x) B

  -- before and after
  b : Bridged sh (own sh x) d B
  b = up_bridged mekr_ends

  -- the list shows them
  s : Shows sh y d
  s = mekr_shows g mekr_ends

  -- and is marked
  gy : Marked sh y p
  gy = mekr_good g mekr_ends

  open mekr_ends use {half_in, mate_in, in_1}
  open b use {start_k, start_a, loop_k, loop_a, next_k, next_a, prev_k, prev_a, face_2}

  -- k and its mate are in one loop there
  span : Span sh (own sh y) k l2
  span = record {
    half = (half_in.0, half_in.1, λ z. omega (arith, in_1.0, sym start_k ∙ sym (s.at Start k half_in.1) ∙ z));
    one = s.at Loop (mate k) mate_in.1 ∙ loop_a ∙ sym (s.at Loop k half_in.1 ∙ loop_k);
    ring_in = r.ring_in;
    free = s.at Face l2 r.ring_in.1 ∙ face_2;
  }

  -- the bridge is read there as it was made
  read_up : span_bridge (own sh y) k l2 ≡ B
  read_up = λ t. record {
    k = k;
    l = (s.at Loop k half_in.1 ∙ loop_k) t;
    l2 = l2;
    u1 = (s.at Start k half_in.1 ∙ start_k) t;
    P1 = (s.at Prev k half_in.1 ∙ prev_k) t;
    N1 = (s.at Next (mate k) mate_in.1 ∙ next_a) t;
    u2 = (s.at Start (mate k) mate_in.1 ∙ start_a) t;
    P2 = (s.at Prev (mate k) mate_in.1 ∙ prev_a) t;
    N2 = (s.at Next k half_in.1 ∙ next_k) t;
  }

  -- kemr leads back to the same columns
  mekr_back : Alike sh (kemr_columns sh (own sh y) k l2 (walk gy.sound span).0) (own sh x)
  mekr_back = down_same (kemr_sound gy span) g.sound
      (subst (Bridged sh _ _) read_up (down_bridged gy.sound span)) b (λ F i v h. s.at F i h)

  -- each corner is found where it was said
  found_at_lem : {m h k' : ℕ} (b' : ℕ) → CornerAt sh c m h → ((i : ℕ) → HalfUsed sh c i → i ≢ k')
      → found_at (corner_of c m h k' b') ≡ h
  found_at_lem {h = h} {k' = k'} b' q off = ⊎_elim
      (λ v. rw (eqb_same v.0, eqb_same {m = k'} refl) (sym v.0))
      (λ v. let z : h ≢ 0 = λ j. omega (arith, v.0.0, j) in rw (eqb_other z, eqb_other (off h v.0))) q

  -- kemr gives everything back
  mekr_undone : Undone sh x p (mekr_of l h1 l2 h2 e w)
  mekr_undone =
      let el = mekr_links_lem sh x g.capacities r k hk in
      let ep = mekr_points sh x g.capacities r p in
      let ei = mekr_inverse_lem sh x p g.capacities r ∙ ap (λ j. kemr_of j l2) hk in
      record {
        accepted = rw (el, ei) (kemr_accepted sh y g.capacities span);
        links = rw (el, ei) (kemr_links_lem sh y g.capacities span
            ∙ shows_ext (kemr_shows gy span) (marked_shows g) mekr_back);
        points = rw (el, ep, ei) (kemr_points sh y g.capacities span p);
        again = rw (el, ep, ei) (kemr_inverse_lem sh y g.capacities span p
            ∙ ap (λ Z. mekr_of Z.l (found_at (corner1 Z)) Z.l2 (found_at (corner2 Z)) (edge_of Z.k) (way_of Z.k))
            read_up
            ∙ (λ t. mekr_of l (found_at_lem (mate k) r.at_1 (off_k b) t) l2 (found_at_lem k r.at_2 (off_a b) t)
            ((ap edge_of (sym hk) ∙ edge_by e w r.edge_in_range.0) t)
            ((ap way_of (sym hk) ∙ way_by e w r.edge_in_range.0 r.way) t)));
      }

-- ---- kemr

module _ {sh : Shape} {x : List ℕ} {p : List ℤ} (g : Marked sh x p) {k l2 : ℕ} (o : Span sh (own sh x) k l2) where
  -- the columns before
  abbrev dₖ : Columns
  dₖ = own sh x

  -- the columns afterwards
  abbrev cₖ : Columns
  cₖ = kemr_columns sh (own sh x) k l2 (walk g.sound o).0

  -- the two corners, 0 where isolated
  abbrev h₁ : ℕ
  h₁ = corner_left (own sh x) k (mate k)

  -- and the other
  abbrev h₂ : ℕ
  h₂ = corner_left (own sh x) (mate k) k

  -- the list afterwards
  abbrev yₖ : List ℕ
  yₖ = kemr_list sh x k l2

  -- before and after
  bₖ : Bridged sh cₖ (own sh x) (span_bridge (own sh x) k l2)
  bₖ = down_bridged g.sound o

  open bₖ.ends use {half_in, loop_in, ring_in, two, used, one_face, ring, at_1, at_2, in_1, in_2, zero_k}
  open bₖ.ends use {zero_a}

  -- the list shows them
  sₖ : Shows sh yₖ cₖ
  sₖ = kemr_shows g o

  -- and is marked
  gₖ : Marked sh yₖ p
  gₖ = kemr_good g o

  -- the table stays marked
  kemr_kept : Kept sh x p (kemr_of k l2)
  kemr_kept = rw (kemr_links_lem sh x g.capacities o, kemr_points sh x g.capacities o p) gₖ

  -- a corner is one of the list afterwards
  corner_at : {s : Corner} → HasCorner sh cₖ s → ((i : ℕ) → HalfUsed sh cₖ i → i ≢ s.k) → In sh.loops s.l
      → s.u ≢ 0
      → CornerAt sh (own sh yₖ) s.l (found_at s)
  corner_at {s} q off i z = ⊎_elim
      (λ v. rw (eqb_same v.after) (inl (refl, λ t. z (sym v.isolated ∙ sym (sₖ.at Isolated s.l i.1) ∙ t))))
      (λ v. let w = v.after in rw (eqb_other (off s.N w))
      (inr ((w.0, w.1, λ t. w.2 (sym (sₖ.at Start s.N w.1) ∙ t)), sₖ.at Loop s.N w.1 ∙ v.loop))) q

  -- and is read there as it was
  read_back : {s : Corner} → HasCorner sh cₖ s → ((i : ℕ) → HalfUsed sh cₖ i → i ≢ s.k) → In sh.loops s.l
      → corner_of (own sh yₖ) s.l (found_at s) s.k s.b ≡ s
  read_back {s} q off i = ⊎_elim
      (λ v. rw (eqb_same v.after) (corner_is (sₖ.at Isolated s.l i.1 ∙ v.isolated) (sym v.before)
      (sym v.after)))
      (λ v. let w = v.after in let z : s.N ≢ 0 = λ t. omega (arith, w.0, t) in
      rw (eqb_other (off s.N w), eqb_other z)
      (corner_is (sₖ.at Start s.N w.1 ∙ v.start) (sₖ.at Prev s.N w.1 ∙ v.prev) refl)) q
    where
      -- the same corner, with its numbers said otherwise
      corner_is : {u P N : ℕ} → u ≡ s.u → P ≡ s.P → N ≡ s.N
          → ◌≡◌ {A = Corner} (record { l = s.l; u = u; P = P; N = N; k = s.k; b = s.b }) s
      corner_is e f h = λ t. record { l = s.l; u = e t; P = f t; N = h t; k = s.k; b = s.b }

  -- mekr is accepted there
  facts : MekrFacts sh (own sh yₖ) (dₖ Loop k) h₁ l2 h₂ (edge_of k) (way_of k)
  facts =
      let f-1 : own sh yₖ Face (dₖ Loop k) ≡ cₖ Face (dₖ Loop k) = sₖ.at Face (dₖ Loop k) loop_in.1 in
      let f-2 : own sh yₖ Face l2 ≡ cₖ Face l2 = sₖ.at Face l2 ring_in.1 in
      let ru : cₖ Face l2 ≢ 0 = λ z. used (sym one_face ∙ z) in
      let fi = ((kemr_sound g o).loop l2 ring_in ru).face_in_lem in
      let e2 : 2 * edge_of k ≤ 2 * sh.edges = omega (arith, half_in.1) in
      record {
        loop_in = loop_in;
        loop_used = λ z. used (sym f-1 ∙ z);
        at_1 = corner_at at_1 (off_k bₖ) loop_in (λ z. omega (arith, in_1.0, z));
        ring_in = ring_in;
        ring_used = λ z. ru (sym f-2 ∙ z);
        at_2 = corner_at at_2 (off_a bₖ) ring_in (λ z. omega (arith, in_2.0, z));
        edge_in_range = edge_in_range k sh.edges half_in;
        edge_free = sₖ.at Start (2 * edge_of k) e2 ∙ ⊎_elim (λ q. ap (cₖ Start) q ∙ zero_k.s)
            (λ q. ap (cₖ Start) q ∙ zero_a.s) (second_half k);
        way = way_small k;
        two = two;
        one_face = f-1 ∙ sym (f-2 ∙ one_face);
        ring = λ z. ring (sym (sₖ.at Outer (cₖ Face l2) fi.1) ∙ ap (own sh yₖ Outer) (sym f-2) ∙ z);
      }

  -- the half that it names is k
  hₖ : half_by (edge_of k) (way_of k) ≡ k
  hₖ = half_is k o.half.0

  -- mekr leads back to the same columns
  kemr_back : Alike sh (mekr_columns sh (own sh yₖ) (mekr_bridge (own sh yₖ) k (dₖ Loop k) h₁ l2 h₂)) (own sh x)
  kemr_back =
      let q1 = read_back at_1 (off_k bₖ) loop_in in
      let q2 = read_back at_2 (off_a bₖ) ring_in in
      up_same (mekr_sound gₖ (mekr_ends gₖ facts hₖ)) g.sound
      (subst (Bridged sh _ _) (λ t. bridge_of k (q1 t) (q2 t)) (up_bridged (mekr_ends gₖ facts hₖ))) bₖ
      (λ F i v h. sₖ.at F i h)

  -- mekr gives everything back
  kemr_undone : Undone sh x p (kemr_of k l2)
  kemr_undone =
      let el = kemr_links_lem sh x g.capacities o in
      let ep = kemr_points sh x g.capacities o p in
      let ei = kemr_inverse_lem sh x g.capacities o p in
      record {
        accepted = rw (el, ei) (mekr_accepted sh yₖ g.capacities facts);
        links = rw (el, ei) (mekr_links_lem sh yₖ g.capacities facts k hₖ
            ∙ shows_ext (mekr_shows gₖ (mekr_ends gₖ facts hₖ)) (marked_shows g) kemr_back);
        points = rw (el, ep, ei) (mekr_points sh yₖ g.capacities facts p);
        again = rw (el, ep, ei) (mekr_inverse_lem sh yₖ p g.capacities facts ∙ ap (λ j. kemr_of j l2) hₖ);
      }

-- ---- as operators

-- both for mekr
pub mekr_holds : (sh : Shape) (x : List ℕ) (p : List ℤ) (o : Operator) → Marked sh x p → length o.args ≡ 8
    → o.code ≡ 8 → refusal_of sh x o ≡ 0 → Kept sh x p o × Undone sh x p o
mekr_holds sh x p o g len e h =
    let r = mekr_said sh x o g.capacities len e h in
    subst (λ q. Kept sh x p q × Undone sh x p q) (sym r.is)
    (mekr_kept g r.facts refl, mekr_undone g r.facts refl)

-- both for kemr
pub kemr_holds : (sh : Shape) (x : List ℕ) (p : List ℤ) (o : Operator) → Marked sh x p → length o.args ≡ 8
    → o.code ≡ 7 → refusal_of sh x o ≡ 0 → Kept sh x p o × Undone sh x p o
kemr_holds sh x p o g len e h =
    let r = kemr_facts sh x o g.capacities len e h in
    subst (λ q. Kept sh x p q × Undone sh x p q) (sym r.is) (kemr_kept g r.span, kemr_undone g r.span)
