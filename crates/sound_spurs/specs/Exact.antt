-- The pair mev and kev, vertex words read as marks (`Marked`): a marked table stays marked, and each is undone by the
-- other to the word, kev where the word of the vertex that it kills is 1. What the one stores the other stores back
-- (`restored`).
use Rattle.std.specs.Prelude.{◌≡◌, refl, ◌≢◌, List, [], ◌∷◌, ◌++◌, ℕ, ◌*◌, ◌≤◌, T, eqb, ℤ, pos, length, drop}
use Rattle.std.proofs.Common.{sym, ap, ◌∙◌, subst, inl, inr, ⊎_elim, arith}
use Rattle.laws.specs.Bools.{pick, eqb_same, eqb_other}
use Rattle.laws.specs.Search.{least_ext}
use Rattle.laws.specs.Update.{upd_same}
use Rattle.script.specs.declared.Operator.{Operator}
use Rattle.layout.specs.declared.shape.Shape.{Shape}
use Rattle.layout.specs.Mate.{mate, edge_of}
use Rattle.layout.specs.Points.{points_length, coordinate, range_test}
use Rattle.layout.specs.Fields.{Field, Face, First, Isolated, Start, Loop, Next, Prev, VertexUsed, Columns, half_kind}
use Rattle.layout.specs.Fields.{cap_of}
use Rattle.layout.specs.Writes.{write, cleared, changes}
use Rattle.euler.specs.Surgery.{put_point, no_edge_writes}
use Rattle.euler.specs.Exec.{refusal_of}
use Rattle.sound_tables.specs.Cells.{Shows, shows_ext}
use Rattle.sound_tables.specs.Sound.{HalfUsed, first_of, Sound}
use Rattle.sound_tables.specs.Names.{not_isolated}
use Rattle.sound_tables.specs.HalfNumbers.{edge_by, way_by, way_small, half_is, edge_in_range, second_half}
use Rattle.sound_tables.specs.PointLists.{put_at, put_back, put_cleared, all_three}
use Rattle.sound_tables.specs.Good.{own, Marked, marked_shows}
use Rattle.sound_tables.specs.CornerTest.{CornerAt}
use Rattle.sound_tables.specs.WriteLaws.{Apart, frame}
use Rattle.sound_tables.specs.Undone.{Kept, Undone, Low, Gone}
use Rattle.sound_tables.specs.WriteBack.{Restores, restored, other_item}
use Rattle.sound_spurs.specs.Relation.{Spur, spur_of, in_k, in_b, in_N, next_P, prev_b, prev_N, Nb, whole_P}
use Rattle.sound_spurs.specs.Relation.{spur_loop_b, spur_loop_N, spur_loop_in, spur_loop_used, spur_start_N}
use Rattle.sound_spurs.specs.Relation.{near_in, far_in, far_used}
use Rattle.sound_spurs.specs.MevSound.{NewEdge, edge_stores, edged, end_stores, mev_columns, MevPlace, off_k}
use Rattle.sound_spurs.specs.MevSound.{start_k, start_b, loop_k, next_b, prev_k}
use Rattle.sound_spurs.specs.KevSound.{out_stores, kev_out, last_stores, kev_columns, Left, left_of, columns_out}
use Rattle.sound_spurs.specs.KevSound.{out_start_k}
use Rattle.sound_spurs.specs.KevSound.{out_start_b}
use Rattle.sound_spurs.specs.MevAccepted.{Mev, mev_of, new_half, MevFits, mev_facts, new_edge, mev_list, mev_points}
use Rattle.sound_spurs.specs.MevAccepted.{mev_links_lem, mev_points_lem, mev_inverse_lem, mev_accepted, mev_place}
use Rattle.sound_spurs.specs.MevAccepted.{mev_corner}
use Rattle.sound_spurs.specs.MevAccepted.{mev_shows, mev_good}
use Rattle.sound_spurs.specs.KevAccepted.{spur_edge, kev_of, kev_facts, kev_list, kev_points, kev_back, kev_links_lem}
use Rattle.sound_spurs.specs.KevAccepted.{kev_killed, kev_points_lem}
use Rattle.sound_spurs.specs.KevAccepted.{kev_inverse_lem, kev_accepted, kev_shows, killed_good}

-- ---- mev, then kev

-- the stores of kev on the edge that mev put in
module _ {sh : Shape} {c : Columns} {E : NewEdge} (o : MevPlace sh c E) where
  open E use {half as k, before as P, after as N}

  -- what came after P, where that is not the mate
  after_P : P ≢ mate k → N ≡ c Next P
  after_P d = ⊎_elim (λ w. absurd (d w.0)) (λ w. sym w.2) o.corner

  -- what came before N, where that is not k
  before_N : N ≢ k → P ≡ c Prev N
  before_N d = ⊎_elim (λ w. absurd (d w.1)) (λ w. sym w.3) o.corner

  -- the stores that take the edge out again are of the old words
  out_restores : {p : List ℤ} → Sound sh p c → Restores c (no_edge_writes k P N k (mate k))
  out_restores a =
      let fk = a.half_free k o.half_in o.half_free in
      let fb = a.half_free (mate k) o.mate_in o.mate_free in
      let of-b : Restores c (cleared half_kind (mate k)) =
      (λ h. sym o.mate_free, (λ h. sym fb.loop, (λ h. sym fb.next, (λ h. sym fb.prev, tt)))) in
      let of-k : Restores c (cleared half_kind k ++ cleared half_kind (mate k)) =
      (λ h. sym o.half_free, (λ h. sym fk.loop, (λ h. sym fk.next, (λ h. sym fk.prev, of-b)))) in
      let covered : Restores c (drop 2 (no_edge_writes k P N k (mate k))) =
      (λ h. absurd (other_item (h 3) refl), (λ h. absurd (other_item (h 7) refl), of-k)) in
      (λ h. after_P (other_item (h 9)), (λ h. before_N (other_item (h 5)), covered))

module _ {sh : Shape} {x : List ℕ} {p : List ℤ} (g : Marked sh x p) {m : Mev} (r : MevFits sh (own sh x) m) where
  -- the columns before
  abbrev c : Columns
  c = own sh x

  -- the edge
  abbrev E : NewEdge
  E = new_edge (own sh x) m

  -- its half
  abbrev k : ℕ
  k = new_half m

  -- the links after mev
  abbrev y : List ℕ
  y = mev_list sh x (new_edge (own sh x) m)

  -- their columns
  abbrev Y : Columns
  Y = own sh (mev_list sh x (new_edge (own sh x) m))

  -- and the points
  abbrev q : List ℤ
  q = mev_points p m

  -- its place
  o : MevPlace sh c E
  o = mev_place g r

  -- what they show
  s : Shows sh y (mev_columns sh c E)
  s = mev_shows g r

  -- what kev reads: before k
  at_P : Y Prev k ≡ E.before
  at_P = s.at Prev k o.half_in.1 ∙ prev_k o

  -- behind its mate
  at_N : Y Next (mate k) ≡ E.after
  at_N = s.at Next (mate k) o.mate_in.1 ∙ next_b o

  -- k's loop
  at_l : Y Loop k ≡ m.loop
  at_l = s.at Loop k o.half_in.1 ∙ loop_k o

  -- where k starts
  at_u : Y Start k ≡ E.from
  at_u = s.at Start k o.half_in.1 ∙ start_k o

  -- where its mate starts
  at_v : Y Start (mate k) ≡ m.vertex
  at_v = s.at Start (mate k) o.mate_in.1 ∙ start_b o

  -- k is in use
  uk : HalfUsed sh Y k
  uk = (o.half_in.0, o.half_in.1, λ z. omega (arith, o.corner_in.0, sym at_u ∙ z))

  -- its mate follows it
  nk : Y Next k ≡ mate k
  nk = s.at Next k o.half_in.1 ∙ upd_same _ k (mate k)

  -- kev leaves the loop isolated where it was
  left : Left Y k (c Isolated m.loop)
  left = ⊎_elim
      (λ w. inl (at_N ∙ w.1, w.2 ∙ sym at_u))
      (λ w. inr (λ z. off_k o E.after w.1 (sym at_N ∙ z), w.4)) o.corner

  -- what is as before once the edge is out: all but what kev stores last
  out_back : (F : Field) (n : ℕ) → n ≤ cap_of sh F → Apart (end_stores E 0) F n
      → changes (no_edge_writes k E.before E.after k (mate k)) Y F n ≡ c F n
  out_back F n j a = restored (no_edge_writes k E.before E.after k (mate k)) c Y (out_restores o g.sound) F n
      (λ h.
      s.at F n j ∙ frame (end_stores E (first_of sh (edged c E) m.loop)) (edged c E) F n a
      ∙ frame (edge_stores E) c F n
      (h 4, (h 5, (h 6, (h 7, (h 8, (h 9, (h 10, (h 11, (h 0, (h 3, (h 2, (h 1, tt)))))))))))))

  -- kev's columns are these
  out_is : kev_out Y k ≡ changes (no_edge_writes k E.before E.after k (mate k)) Y
  out_is t = changes (no_edge_writes k (at_P t) (at_N t) k (mate k)) Y

  -- the loop's first is found again
  first_back : first_of sh (kev_out Y k) (Y Loop k) ≡ c First m.loop
  first_back = (λ t. first_of sh (out_is t) (at_l t))
      ∙ least_ext (2 * sh.edges) _ _
      (λ i a b. ap (λ z. eqb z m.loop) (out_back Loop i b (inl refl, (inl refl, (inl refl, tt)))))
      ∙ sym (g.sound.loop m.loop o.loop_in o.loop_used).first

  -- kev leads back
  kev_leads_back : kev_list sh y k ≡ x
  kev_leads_back = shows_ext (kev_shows (mev_good g r) uk nk left) (marked_shows g) (λ F n i j.
      (λ t. changes (write First (at_l t) (first_back t) ∷ write Isolated (at_l t) (c Isolated m.loop)
      ∷ write VertexUsed (at_v t) 0 ∷ []) (out_is t) F n)
      ∙ restored (write First m.loop (c First m.loop) ∷ write Isolated m.loop (c Isolated m.loop)
      ∷ write VertexUsed m.vertex 0 ∷ []) c
      (changes (no_edge_writes k E.before E.after k (mate k)) Y)
      ((λ h. refl), ((λ h. refl), ((λ h. sym r.vertex_free), tt))) F n
      (λ h. out_back F n j (h 0, (h 1, (h 2, tt)))))

  -- a marked table stays marked
  mev_kept : Kept sh x p (mev_of m)
  mev_kept = rw (mev_links_lem sh x g.capacities r, mev_points_lem sh x g.capacities r p) (mev_good g r)

  -- kev gives everything back
  mev_undone : Undone sh x p (mev_of m)
  mev_undone =
      let gy = mev_good g r in
      let el = mev_links_lem sh x g.capacities r in
      let ep = mev_points_lem sh x g.capacities r p in
      let ei = mev_inverse_lem sh x g.capacities r p in
      let lo : points_length m.vertex ≤ length p = omega (arith, g.points, r.vertex_in.1) in
      let at = put_at p m.vertex m.x m.y m.z r.vertex_in.0 lo in
      record {
        accepted = rw (el, ei) (kev_accepted gy uk nk);
        links = rw (el, ei) (kev_links_lem gy uk nk ∙ kev_leads_back);
        points = rw (el, ep, ei) (kev_points_lem gy uk nk ∙ ap (λ t. put_point q t (pos 0) (pos 0) (pos 0)) at_v
            ∙ put_cleared sh.vertices p m.vertex m.x m.y m.z g.points r.vertex_in
            ((g.sound.point m.vertex r.vertex_in).zero r.vertex_free));
        again = rw (el, ep, ei) (kev_inverse_lem gy uk nk ∙ (λ t. mev_of (record {
          loop = at_l t;
          half = (ap (λ n. pick (eqb n k) 0 n) at_N ∙ mev_corner g r) t;
          edge = edge_by m.edge m.way r.edge_in_range.0 t;
          vertex = at_v t;
          way = way_by m.edge m.way r.edge_in_range.0 r.way t;
          x = (ap (λ v. coordinate q v 0) at_v ∙ at 0 (omega arith)) t;
          y = (ap (λ v. coordinate q v 1) at_v ∙ at 1 (omega arith)) t;
          z = (ap (λ v. coordinate q v 2) at_v ∙ at 2 (omega arith)) t;
        })));
      }

-- ---- kev, then mev

module _ {sh : Shape} {x : List ℕ} {p : List ℤ} (g : Marked sh x p) {k : ℕ} (uk : HalfUsed sh (own sh x) k)
    (nk : own sh x Next k ≡ mate k) {I : ℕ} (left : Left (own sh x) k I) where
  -- the columns before
  abbrev kc : Columns
  kc = own sh x

  -- the spur
  abbrev sp : Spur sh p (own sh x) k
  sp = spur_of g uk nk

  -- its edge
  abbrev k_e : NewEdge
  k_e = spur_edge (own sh x) k

  -- the operands of the mev that undoes it
  abbrev m : Mev
  m = kev_back sh x p k

  -- the links after kev
  abbrev ky : List ℕ
  ky = kev_list sh x k

  -- their columns
  abbrev k_y : Columns
  k_y = own sh (kev_list sh x k)

  -- the points
  abbrev kq : List ℤ
  kq = kev_points sh x p k

  -- they are marked
  gy : Marked sh ky kq
  gy = killed_good g uk nk left

  -- the columns they show
  ks : Shows sh ky (kev_columns sh kc k I)
  ks = kev_shows g uk nk left

  -- where the loop is isolated
  at_isolated : k_y Isolated k_e.loop ≡ I
  at_isolated = ks.at Isolated k_e.loop (spur_loop_in sp).1 ∙ upd_same (kc Isolated) k_e.loop I

  -- where the half-edge behind the edge starts
  at_start_N : k_e.after ≢ k → k_y Start k_e.after ≡ k_e.from
  at_start_N f = ks.at Start _ (in_N sp).1 ∙ (columns_out sp left).start _ f (Nb sp) ∙ spur_start_N sp

  -- its loop
  at_loop_N : k_e.after ≢ k → k_y Loop k_e.after ≡ k_e.loop
  at_loop_N f = ks.at Loop _ (in_N sp).1 ∙ (columns_out sp left).loop _ f (Nb sp) ∙ spur_loop_N sp

  -- and what is before it
  at_prev_N : k_e.after ≢ k → k_y Prev k_e.after ≡ k_e.before
  at_prev_N f = ks.at Prev _ (in_N sp).1 ∙ (columns_out sp left).prev _ f (Nb sp) ∙ upd_same _ _ k_e.before

  -- where k follows its mate, the corner is an isolated one
  h_whole : k_e.after ≡ k → m.half ≡ 0
  h_whole e = rw (eqb_same e)

  -- elsewhere it is the half-edge behind the edge
  h_part : k_e.after ≢ k → m.half ≡ k_e.after
  h_part f = rw (eqb_other f)

  -- the edge's second half is free
  edge_free : k_y Start (2 * edge_of k) ≡ 0
  edge_free = ⊎_elim
      (λ e. ap (k_y Start) e ∙ ks.at Start k uk.1 ∙ out_start_k sp left)
      (λ e. ap (k_y Start) e ∙ ks.at Start (mate k) (in_b sp).1 ∙ out_start_b sp left) (second_half k)

  -- mev fits there
  fits : MevFits sh k_y m
  fits = record {
    loop_in = spur_loop_in sp;
    loop_used = λ z. spur_loop_used sp (sym (ks.at Face k_e.loop (spur_loop_in sp).1) ∙ z);
    edge_in_range = edge_in_range k sh.edges (in_k sp);
    edge_free = edge_free;
    vertex_in = far_in sp;
    vertex_free = ks.at VertexUsed k_e.to (far_in sp).1 ∙ upd_same (kc VertexUsed) k_e.to 0;
    corner = ⊎_elim
        (λ w. inl (h_whole w.0, λ z. omega (arith, (near_in sp).0, sym w.1 ∙ sym at_isolated ∙ z)))
        (λ w. subst (CornerAt sh k_y k_e.loop) (sym (h_part w.0))
        (inr (let u : k_y Start k_e.after ≢ 0 = λ z. omega (arith, (near_in sp).0, sym (at_start_N w.0) ∙ z) in
        (((in_N sp).0, (in_N sp).1, u), at_loop_N w.0)))) left;
    way = way_small k;
    range = let r = (g.sound.point k_e.to (far_in sp)).range in
        all_three (λ z. T (range_test z)) _ _ _ (r 0 (omega arith)) (r 1 (omega arith)) (r 2 (omega arith));
  }

  -- and puts in the edge that went
  edge_is : new_edge k_y m ≡ k_e
  edge_is =
      let K = half_is k uk.0 in
      ⊎_elim
      (λ w. rw (eqb_same (h_whole w.0))
      (is K (at_isolated ∙ w.1) (ap mate K ∙ sym (whole_P sp w.0)) (K ∙ sym w.0)))
      (λ w.
      let e = h_part w.0 in
      let n : m.half ≢ 0 = λ z. omega (arith, (in_N sp).0, sym e ∙ z) in
      rw (eqb_other n) (is K (ap (k_y Start) e ∙ at_start_N w.0) (ap (k_y Prev) e ∙ at_prev_N w.0) e)) left
    where
      -- word by word
      is : {i u b a : ℕ} → i ≡ k → u ≡ k_e.from → b ≡ k_e.before → a ≡ k_e.after
          → record { loop = k_e.loop; half = i; from = u; to = k_e.to; before = b; after = a } ≡ k_e
      is i u b a t = record { loop = k_e.loop; half = i t; from = u t; to = k_e.to; before = b t; after = a t }

  -- what mev stores to the half-edges are the old words
  in_restores : Restores kc (edge_stores k_e)
  in_restores =
      let ties : Restores kc (drop 8 (edge_stores k_e)) =
      (λ h. sym (next_P sp), (λ h. sym (prev_b sp), (λ h. sym nk, (λ h. sym (prev_N sp), tt)))) in
      let of-b : Restores kc (drop 4 (edge_stores k_e)) =
      (λ h. refl, (λ h. sym (spur_loop_b sp), (λ h. refl, (λ h. sym (prev_b sp), ties)))) in
      (λ h. refl, (λ h. refl, (λ h. sym nk, (λ h. refl, of-b))))

  -- what is as before once the edge is in: all but what mev stores last
  in_back : (F : Field) (n : ℕ) → n ≤ cap_of sh F → Apart (last_stores kc k 0 0) F n → edged k_y k_e F n ≡ kc F n
  in_back F n j a = restored (edge_stores k_e) kc k_y in_restores F n (λ h.
      ks.at F n j ∙ frame (last_stores kc k (first_of sh (kev_out kc k) k_e.loop) I) (kev_out kc k) F n a
      ∙ frame (out_stores kc k) kc F n
      (h 8, (h 11, (h 2, (h 7, (h 0, (h 1, (h 2, (h 3, (h 4, (h 5, (h 6, (h 7, tt)))))))))))))

  -- the loop's first is found again
  first_again : first_of sh (edged k_y k_e) k_e.loop ≡ kc First k_e.loop
  first_again = least_ext (2 * sh.edges) _ _
      (λ i a b. ap (λ z. eqb z k_e.loop) (in_back Loop i b (inl refl, (inl refl, (inl refl, tt)))))
      ∙ sym (g.sound.loop k_e.loop (spur_loop_in sp) (spur_loop_used sp)).first

  -- mev leads back, where the word of the vertex that went was 1
  mev_leads_back : kc VertexUsed k_e.to ≡ 1 → mev_list sh ky (new_edge k_y m) ≡ x
  mev_leads_back far-mark = shows_ext (mev_shows gy fits) (marked_shows g) (λ F n i j.
      (λ t. mev_columns sh k_y (edge_is t) F n)
      ∙ restored (end_stores k_e (first_of sh (edged k_y k_e) k_e.loop)) kc (edged k_y k_e)
      ((λ h. first_again), ((λ h. sym (not_isolated g.sound k uk refl)), ((λ h. sym far-mark), tt))) F n
      (λ h. in_back F n j (h 0, (h 1, (h 2, tt)))))

  -- a marked table stays marked
  kev_kept : Kept sh x p (kev_of k)
  kev_kept = rw (kev_links_lem g uk nk, kev_points_lem g uk nk) gy

  -- mev gives everything back
  kev_undone : kc VertexUsed k_e.to ≤ 1 → Undone sh x p (kev_of k)
  kev_undone low =
      let u = far_used sp in
      let el = kev_links_lem g uk nk in
      let ep = kev_points_lem g uk nk in
      let ei = kev_inverse_lem g uk nk in
      record {
        accepted = rw (el, ei) (mev_accepted sh ky g.capacities fits);
        links = rw (el, ei) (mev_links_lem sh ky g.capacities fits ∙ mev_leads_back (omega (arith, low, u)));
        points = rw (el, ep, ei) (mev_points_lem sh ky g.capacities fits kq ∙ put_back sh.vertices p k_e.to (pos 0)
            (pos 0) (pos 0) g.points (far_in sp));
        again = rw (el, ep, ei) (mev_inverse_lem sh ky g.capacities fits kq ∙ ap kev_of (half_is k uk.0));
      }

-- ---- as operators

-- both for mev
pub mev_holds : (sh : Shape) (x : List ℕ) (p : List ℤ) (o : Operator) → Marked sh x p → length o.args ≡ 8
    → o.code ≡ 3 → refusal_of sh x o ≡ 0 → Kept sh x p o × Undone sh x p o
mev_holds sh x p o g len e h =
    let f = mev_facts sh x o g.capacities len e h in
    subst (λ q. Kept sh x p q × Undone sh x p q) (sym f.is) (mev_kept g f.fits, mev_undone g f.fits)

-- both for kev: it is undone where the word of the vertex that it kills is 1
pub kev_holds : (sh : Shape) (x : List ℕ) (p : List ℤ) (o : Operator) → Marked sh x p → length o.args ≡ 8
    → o.code ≡ 4 → refusal_of sh x o ≡ 0 → Kept sh x p o × (Low sh x o → Undone sh x p o)
kev_holds sh x p o g len e h =
    let f = kev_facts sh x o g.capacities len e h in
    let w = left_of (own sh x) f.k in
    let v = kev_killed g f.used f.next in
    subst (λ q. Kept sh x p q × (Low sh x q → Undone sh x p q)) (sym f.is)
    (kev_kept g f.used f.next w.1, λ low. kev_undone g f.used f.next w.1 (rw v at low))

-- the vertex that kev kills is free afterwards
pub kev_gone : (sh : Shape) (x : List ℕ) (p : List ℤ) (o : Operator) → Marked sh x p → length o.args ≡ 8
    → o.code ≡ 4 → refusal_of sh x o ≡ 0 → Gone sh x o
kev_gone sh x p o g len e h =
    let f = kev_facts sh x o g.capacities len e h in
    let w = left_of (own sh x) f.k in
    let t = fits g f.used f.next w.1 in
    subst (Gone sh x) (sym f.is) (rw (kev_killed g f.used f.next, kev_links_lem g f.used f.next)
    (inr (t.vertex_in, t.vertex_free)))
