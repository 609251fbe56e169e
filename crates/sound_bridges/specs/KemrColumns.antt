-- What kemr leaves, as a list and as columns, and: these columns differ from those before by the bridge. The walk from
-- next of k to its mate meets the half-edges of the new ring.
use Rattle.std.specs.Prelude.{◌≡◌, refl, ◌≢◌, false, List, [], ◌∷◌, ◌++◌, ℕ, ◌*◌, ◌<◌, eqb, ℤ}
use Rattle.std.proofs.Common.{sym, ap, ◌∙◌, subst, inl, inr, ⊎_elim, arith}
use Rattle.laws.specs.Bools.{pick, split, eqb_same, eqb_other}
use Rattle.laws.specs.Update.{upd, upd_same, upd_off}
use Rattle.laws.specs.Permutations.{Perm, inj}
use Rattle.laws.specs.Cycles.{alone}
use Rattle.layout.specs.declared.shape.Shape.{Shape}
use Rattle.layout.specs.Mate.{mate}
use Rattle.layout.specs.MateLaws.{mate_mate}
use Rattle.euler.specs.Surgery.{no_edge_writes, loop_record, edge_out, put_loop, relabel_run, renew}
use Rattle.layout.specs.Writes.{Write, write, changes}
use Rattle.sound_tables.specs.WriteLaws.{among_off, unwritten}
use Rattle.layout.specs.Fields.{Field, Outer, Face, First, Isolated, Start, Loop, Next, Prev, VertexUsed, Columns}
use Rattle.layout.specs.Fields.{among}
use Rattle.sound_tables.specs.Mates.{mate_other}
use Rattle.sound_tables.specs.EdgeIn.{prev_in, next_prev}
use Rattle.sound_tables.specs.Sound.{In, HalfUsed, first_of, HalfSound, Sound}
use Rattle.sound_tables.specs.Names.{not_isolated}
use Rattle.sound_tables.specs.Walking.{Steps, run_columns, run_met, run_off, run_other}
use Rattle.sound_tables.specs.Good.{own}
use Rattle.sound_tables.specs.CornerTest.{corner_left}
use Rattle.sound_bridges.specs.Relation.{HasCorner, Bridge, derived, corner1, corner2, touched, Bridged}
use Rattle.sound_bridges.specs.Runs.{Met, met?, run_to, met_in, not_k, not_a, met_next, met_prev, met_last}
use Rattle.sound_bridges.specs.Runs.{met_first}

-- ---- what kemr leaves

-- the bridge k of the table d, whose far side becomes the ring l2
abbrev pub span_bridge : Columns → (k l2 : ℕ) → Bridge
span_bridge d k l2 = record {
  k = k;
  l = d Loop k;
  l2 = l2;
  u1 = d Start k;
  P1 = d Prev k;
  N1 = d Next (mate k);
  u2 = d Start (mate k);
  P2 = d Prev (mate k);
  N2 = d Next k;
}

-- the list, before the two loops have their firsts
abbrev pub parted_list : Shape → List ℕ → (k l2 : ℕ) → List ℕ
parted_list sh x k l2 =
    put_loop sh
    (edge_out sh (relabel_run sh x (own sh x Next k) (mate k) l2) k
    (own sh x Prev k) (own sh x Next (mate k)) (own sh x Prev (mate k)) (own sh x Next k))
    l2 (own sh x Face (own sh x Loop k)) 0 0

-- and once they have
abbrev pub kemr_list : Shape → List ℕ → (k l2 : ℕ) → List ℕ
kemr_list sh x k l2 =
    renew sh
    (renew sh (parted_list sh x k l2) l2 (own sh x First (own sh x Loop k))
    (corner_left (own sh x) (mate k) k) (own sh x Start (mate k)))
    (own sh x Loop k) (own sh x First (own sh x Loop k)) (corner_left (own sh x) k (mate k)) (own sh x Start k)

-- the edge comes out, and l2 lies in the face of k
abbrev pub cut_writes : Columns → (k l2 : ℕ) → List Write
cut_writes d k l2 =
    no_edge_writes k (d Prev k) (d Next (mate k)) (d Prev (mate k)) (d Next k) ++ loop_record l2 (d Face (d Loop k)) 0 0

-- the columns, before the two loops have their firsts: the t half-edges of the run name l2
abbrev pub cut_columns : Columns → (k l2 t : ℕ) → Columns
cut_columns d k l2 t = changes (cut_writes d k l2) (run_columns d (d Next k) t l2)

-- the firsts and the isolated vertices of the two loops
abbrev pub first_writes : Shape → Columns → (k l2 t : ℕ) → List Write
first_writes sh d k l2 t =
    write First l2 (first_of sh (cut_columns d k l2 t) l2)
    ∷ write Isolated l2 (pick (eqb (d Next k) (mate k)) (d Start (mate k)) 0)
    ∷ write First (d Loop k) (first_of sh (cut_columns d k l2 t) (d Loop k))
    ∷ write Isolated (d Loop k) (pick (eqb (d Next (mate k)) k) (d Start k) 0)
    ∷ []

-- the columns afterwards
abbrev pub kemr_columns : Shape → Columns → (k l2 t : ℕ) → Columns
kemr_columns sh d k l2 t = changes (first_writes sh d k l2 t) (cut_columns d k l2 t)

-- what is asked of the table before: k and its mate are in one loop, and l2 is free
pub record Span (sh : Shape) (d : Columns) (k l2 : ℕ) : Type 0 where
  pub half : HalfUsed sh d k
  pub one : d Loop (mate k) ≡ d Loop k
  pub ring_in : In sh.loops l2
  pub free : d Face l2 ≡ 0

module _ {sh : Shape} {p : List ℤ} {d : Columns} (A : Sound sh p d) {k l2 : ℕ} (o : Span sh d k l2) where
  -- the bridge
  abbrev B : Bridge
  B = span_bridge d k l2

  open derived sh B use {n, a}
  open B use {l, P1, N1, P2, N2}
  open o use {half, one, ring_in, free}
  open A use {rules}
  open A.rules use {undone, loops, verts}

  -- next permutes the half-edges in use
  perm : Perm (2 * sh.edges) (HalfUsed sh d) (d Next)
  perm = loops.perm

  -- ---- around the edge

  -- the mate is in use
  ua : HalfUsed sh d a
  ua = rules.mate_in k half

  -- the two halves differ
  ka : k ≢ a
  ka = mate_other k half.0

  -- the same the other way round
  ak : a ≢ k
  ak e = ka (sym e)

  -- neither half is alone in its loop
  N2k : N2 ≢ k
  N2k e = ak (alone loops half e a ua one)

  -- the mate is not
  N1a : N1 ≢ a
  N1a e = ka (alone loops ua e k half (sym one))

  -- nor does k come before itself
  P1k : P1 ≢ k
  P1k e = N2k (ap (d Next) (sym e) ∙ next_prev rules k half)

  -- nor the mate
  P2a : P2 ≢ a
  P2a e = N1a (ap (d Next) (sym e) ∙ next_prev rules a ua)

  -- different half-edges come before the two
  P12 : P1 ≢ P2
  P12 e = ka (sym (next_prev rules k half) ∙ ap (d Next) e ∙ next_prev rules a ua)

  -- and different ones follow them
  N12 : N1 ≢ N2
  N12 e = ak (inj perm ua half e)

  -- ---- the walk

  -- how long it is
  pub walk : (t : ℕ) × (t < 2 * sh.edges) × Steps (d Next) (d Next k) (mate k) t
  walk = run_to loops (perm.f_in k half) ua (loops.keeps k half ∙ sym one)

  -- i is met on the way
  abbrev OnRun : ℕ → Type 0
  OnRun i = Met (d Next) (d Next k) walk.0 i

  -- the columns once the run names l2
  abbrev e₀ : Columns
  e₀ = run_columns d (d Next k) walk.0 l2

  -- the columns afterwards
  abbrev c : Columns
  c = kemr_columns sh d k l2 walk.0

  -- the loops afterwards
  loop_met : {i : ℕ} → OnRun i → e₀ Loop i ≡ l2
  loop_met m = ap (e₀ Loop) (sym m.2) ∙ run_met d walk.0 N2 l2 m.0 m.1

  -- all others name what they named
  loop_off : {i : ℕ} → (OnRun i → ⊥) → e₀ Loop i ≡ d Loop i
  loop_off {i} h = run_off d walk.0 N2 l2 i (λ t b e. h (t, b, e))

  -- by cases: on the run, or not
  by_run : {C : Type 0} (i : ℕ) → (OnRun i → C) → ((OnRun i → ⊥) → C) → C
  by_run i f g = ⊎_elim f (λ h. g (λ m. h m.0 m.1 m.2)) (met? (d Next) walk.0 N2 i)

  -- away from the edge the loop is that of the walk
  c_loop : (i : ℕ) → i ≢ k → i ≢ a → c Loop i ≡ e₀ Loop i
  c_loop i e f = upd_off _ 0 f ∙ upd_off _ 0 e

  -- and the start what it was
  c_start : (i : ℕ) → i ≢ k → i ≢ a → c Start i ≡ d Start i
  c_start i e f = upd_off _ 0 f ∙ upd_off _ 0 e ∙ run_other d walk.0 N2 l2 Start refl i

  -- what is in use and not of the edge stays in use
  half_c : (i : ℕ) → HalfUsed sh d i → i ≢ k → i ≢ a → HalfUsed sh c i
  half_c i w e f = (w.0, w.1, λ z. w.2 (sym (c_start i e f) ∙ z))

  -- half-edges afterwards are other ones, and were in use
  c_half : (i : ℕ) → HalfUsed sh c i → (i ≢ k) × (i ≢ a) × HalfUsed sh d i
  c_half i w =
      let f : i ≢ a = λ z. w.2 (ap (c Start) z ∙ upd_same _ a 0) in
      let e : i ≢ k = λ z. w.2 (ap (c Start) z ∙ upd_off _ 0 ka ∙ upd_same _ k 0) in
      (e, f, (w.0, w.1, λ z. w.2 (c_start i e f ∙ z)))

  -- k is sound
  hk : HalfSound sh d k
  hk = A.half k (half.0, half.1) half.2

  -- its loop is in use and the ring is not
  two : l ≢ l2
  two e = hk.loop_used (ap (d Face) e ∙ free)

  -- no half-edge named the ring
  not_l2 : (i : ℕ) → In n i → d Loop i ≢ l2
  not_l2 i j e = split (d Start i) 0 (λ z. omega (arith, ring_in.0, sym e ∙ (A.half_free i j z).loop))
      (λ z. (A.half i j z).loop_used (ap (d Face) e ∙ free))

  -- what follows the mate is not met
  N1_off : OnRun N1 → ⊥
  N1_off m = ⊎_elim ak (not_a perm half walk.2) (met_prev perm half walk.2 ua m)

  -- P1 goes to k, so it is not met
  P1_off : OnRun P1 → ⊥
  P1_off m = ⊎_elim (λ e. ka (sym (next_prev rules k half) ∙ e))
      (λ h. not_k perm half walk.2 (subst OnRun (next_prev rules k half) h)) (met_next perm half walk.2 m)

  -- it names the loop
  l_N1 : d Loop N1 ≡ l
  l_N1 = loops.keeps a ua ∙ one

  -- and so does what comes before k
  l_P1 : d Loop P1 ≡ l
  l_P1 = sym (loops.keeps P1 (prev_in rules k half)) ∙ ap (d Loop) (next_prev rules k half)

  -- away from the edge and its neighbours next is what it was
  c_next : (i : ℕ) → i ≢ k → i ≢ a → i ≢ P1 → i ≢ P2 → c Next i ≡ d Next i
  c_next i e f g h = upd_off _ 0 f ∙ upd_off _ 0 e ∙ upd_off _ N2 h ∙ upd_off _ N1 g
      ∙ run_other d walk.0 N2 l2 Next refl i

  -- what came before k goes to what followed the mate
  next_P1 : P1 ≢ a → c Next P1 ≡ N1
  next_P1 e = upd_off _ 0 e ∙ upd_off _ 0 P1k ∙ upd_off _ N2 P12 ∙ upd_same _ P1 N1

  -- and what came before the mate to what followed k
  next_P2 : P2 ≢ k → c Next P2 ≡ N2
  next_P2 e = upd_off _ 0 P2a ∙ upd_off _ 0 e ∙ upd_same _ P2 N2

  -- afterwards next keeps the loops
  c_keeps : (i : ℕ) → HalfUsed sh c i → c Loop (c Next i) ≡ c Loop i
  c_keeps i w =
      let v = c_half i w in
      split i P1
      (λ e.
      let Pa : P1 ≢ a = λ z. v.1 (e ∙ z) in
      let Nk : N1 ≢ k = λ z. Pa (ap (d Prev) (sym z) ∙ undone a ua) in
      ap (c Loop) (ap (c Next) e ∙ next_P1 Pa) ∙ c_loop N1 Nk N1a ∙ loop_off N1_off ∙ l_N1
      ∙ sym (ap (c Loop) e ∙ c_loop P1 P1k Pa ∙ loop_off P1_off ∙ l_P1))
      (λ e. split i P2
      (λ f.
      let Pk : P2 ≢ k = λ z. v.0 (f ∙ z) in
      let Na : N2 ≢ a = λ z. Pk (ap (d Prev) (sym z) ∙ undone k half) in
      ap (c Loop) (ap (c Next) f ∙ next_P2 Pk) ∙ c_loop N2 N2k Na ∙ loop_met (met_first perm half walk.2 Na)
      ∙ sym (ap (c Loop) f ∙ c_loop P2 Pk P2a
      ∙ loop_met (met_last perm half walk.2 (prev_in rules a ua) (next_prev rules a ua) Na)))
      (λ f.
      let nk : d Next i ≢ k = λ z. e (sym (undone i v.2) ∙ ap (d Prev) z) in
      let na : d Next i ≢ a = λ z. f (sym (undone i v.2) ∙ ap (d Prev) z) in
      ap (c Loop) (c_next i v.0 v.1 e f) ∙ c_loop (d Next i) nk na ∙ by_run i
      (λ m. ⊎_elim (λ z. absurd (na z)) (λ m'. loop_met m') (met_next perm half walk.2 m)
      ∙ sym (c_loop i v.0 v.1 ∙ loop_met m))
      (λ m. loop_off (λ m'. ⊎_elim v.0 m (met_prev perm half walk.2 v.2 m')) ∙ loops.keeps i v.2
      ∙ sym (c_loop i v.0 v.1 ∙ loop_off m))))

  -- ---- the corners

  -- the isolated vertex of the loop
  isolated_l : c Isolated l ≡ pick (eqb N1 k) (d Start k) 0
  isolated_l = upd_same _ l _

  -- and of the ring
  isolated_l2 : c Isolated l2 ≡ pick (eqb N2 a) (d Start a) 0
  isolated_l2 = upd_off _ _ (λ e. two (sym e)) ∙ upd_same _ l2 _

  -- the corner of the loop
  corner_1 : HasCorner sh c (corner1 B)
  corner_1 = split N1 k
      (λ e. inl (record
      { before = ap (d Prev) (sym e) ∙ undone a ua; after = e; isolated = isolated_l ∙ rw (eqb_same e) }))
      (λ e.
      let Pa : P1 ≢ a = λ z. e (ap (d Next) (sym z) ∙ next_prev rules k half) in
      inr (record {
        before = half_c P1 (prev_in rules k half) P1k Pa;
        after = half_c N1 (perm.f_in a ua) e N1a;
        next = next_P1 Pa;
        prev = upd_off _ 0 N1a ∙ upd_off _ 0 e ∙ upd_off _ P2 N12 ∙ upd_same _ N1 P1;
        loop = c_loop N1 e N1a ∙ loop_off N1_off ∙ l_N1;
        start = c_start N1 e N1a ∙ verts.keeps k half;
        isolated = isolated_l ∙ rw (eqb_other e);
      }))

  -- the corner of the ring
  corner_2 : HasCorner sh c (corner2 B)
  corner_2 = split N2 a
      (λ e. inl (record
      { before = ap (d Prev) (sym e) ∙ undone k half; after = e; isolated = isolated_l2 ∙ rw (eqb_same e) }))
      (λ e.
      let Pk : P2 ≢ k = λ z. e (ap (d Next) (sym z) ∙ next_prev rules a ua) in
      inr (record {
        before = half_c P2 (prev_in rules a ua) Pk P2a;
        after = half_c N2 (perm.f_in k half) N2k e;
        next = next_P2 Pk;
        prev = upd_off _ 0 e ∙ upd_off _ 0 N2k ∙ upd_same _ N2 P2;
        loop = c_loop N2 N2k e ∙ loop_met (met_first perm half walk.2 e);
        start = c_start N2 N2k e ∙ ap (λ i. d Start (d Next i)) (sym (mate_mate k)) ∙ verts.keeps a ua;
        isolated = isolated_l2 ∙ rw (eqb_other e);
      }))

  -- its loop is not isolated
  l_isolated : d Isolated l ≡ 0
  l_isolated = not_isolated A k half refl

  -- its face stays
  face_l : c Face l ≡ d Face l
  face_l = upd_off _ _ two ∙ run_other d walk.0 N2 l2 Face refl l

  -- the fields that a bridge does not touch
  others : (F : Field) → among touched F ≡ false → (i : ℕ) → d F i ≡ c F i
  others F e i = sym (unwritten touched (cut_writes d k l2 ++ first_writes sh d k l2 walk.0) refl e₀ F e i
      ∙ run_other d walk.0 N2 l2 F (among_off touched Loop F refl e) i)

  -- the words of k are 0
  gone_k : (f : ℕ → ℕ) → upd (upd f k 0) a 0 k ≡ 0
  gone_k f = upd_off _ 0 ka ∙ upd_same f k 0

  -- if the ring were the outer loop of its face, no face would have been there
  not_outer : c Outer (c Face l2) ≡ l2 → d Face l ≡ 0
  not_outer e =
      let L = A.loop l hk.loop_in hk.loop_used in
      sym (A.face (d Face l) L.face_in_lem L.face_used).outer_face
      ∙ ap (d Face) (others Outer refl (d Face l) ∙ ap (c Outer) (sym (upd_same _ l2 _)) ∙ e) ∙ free

  -- before and after kemr
  pub down_bridged : Bridged sh (kemr_columns sh d k l2 walk.0) d (span_bridge d k l2)
  down_bridged =
      let ha = A.half a (ua.0, ua.1) ua.2 in
      record {
        ends = record {
          half_in = (half.0, half.1);
          mate_in = (ua.0, ua.1);
          loop_in = hk.loop_in;
          ring_in = ring_in;
          two = two;
          used = λ z. hk.loop_used (sym face_l ∙ z);
          one_face = upd_same _ l2 _ ∙ sym face_l;
          ring = λ e. hk.loop_used (not_outer e);
          at_1 = corner_1;
          at_2 = corner_2;
          in_1 = hk.start_in;
          in_2 = ha.start_in;
          used_1 = λ z. hk.start_used (others VertexUsed refl _ ∙ z);
          used_2 = λ z. ha.start_used (others VertexUsed refl _ ∙ z);
          zero_k = record { s = gone_k _; l = gone_k _; n = gone_k _; p = gone_k _ };
          zero_a = record { s = upd_same _ a 0; l = upd_same _ a 0; n = upd_same _ a 0; p = upd_same _ a 0 };
          keeps = c_keeps;
        };
        start_k = refl;
        start_a = refl;
        start_o = λ i e f. sym (c_start i e f);
        loop_k = refl;
        loop_a = one;
        loop_2 = λ i j z. split i k
            (λ e. absurd (omega (arith, ring_in.0, sym z ∙ ap (c Loop) e ∙ upd_off _ 0 ka ∙ upd_same _ k 0)))
            (λ e. split i a (λ f. absurd (omega (arith, ring_in.0, sym z ∙ ap (c Loop) f ∙ upd_same _ a 0)))
            (λ f. by_run i (λ m. (met_in loops (perm.f_in k half) m).1 ∙ loops.keeps k half)
            (λ m. absurd (not_l2 i j (sym (c_loop i e f ∙ loop_off m) ∙ z)))));
        loop_o = λ i e f z. by_run i (λ m. absurd (z (c_loop i e f ∙ loop_met m)))
            (λ m. sym (c_loop i e f ∙ loop_off m));
        next_k = refl;
        next_a = refl;
        next_1 = next_prev rules k half;
        next_2 = next_prev rules a ua;
        next_o = λ i e f g h. sym (c_next i e f g h);
        prev_k = refl;
        prev_a = refl;
        prev_1 = undone a ua;
        prev_2 = undone k half;
        prev_o = λ i e f g h. sym (upd_off _ 0 f ∙ upd_off _ 0 e ∙ upd_off _ P2 h ∙ upd_off _ P1 g
            ∙ run_other d walk.0 N2 l2 Prev refl i);
        face_2 = free;
        face_o = λ m e. sym (upd_off _ _ e ∙ run_other d walk.0 N2 l2 Face refl m);
        first_o = λ m e f. sym (upd_off _ _ e ∙ upd_off _ _ f ∙ upd_off _ 0 f
            ∙ run_other d walk.0 N2 l2 First refl m);
        isolated_1 = l_isolated;
        isolated_2 = (A.loop_free l2 ring_in free).1;
        isolated_o = λ m e f. sym (upd_off _ _ e ∙ upd_off _ _ f ∙ upd_off _ 0 f
            ∙ run_other d walk.0 N2 l2 Isolated refl m);
        others = others;
      }

  -- the firsts of the two
  pub down_first : c First l ≡ first_of sh c l
  down_first = upd_same _ l _

  -- and the other
  pub down_first_2 : c First l2 ≡ first_of sh c l2
  down_first_2 = upd_off _ _ (λ e. two (sym e)) ∙ upd_same _ l2 _
