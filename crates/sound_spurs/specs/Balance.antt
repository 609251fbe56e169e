-- The pair mev and kev: where half-edges come and go and which vertices are made and killed (`Balanced`); and kev on
-- two tables that differ in vertex words alone.
use Rattle.std.specs.Prelude.{◌≡◌, refl, List, [], ◌∷◌, ℕ, ◌*◌, ◌≤◌, eqb, ℤ, length}
use Rattle.std.proofs.Common.{sym, ap, ◌∙◌, subst, inl, inr, ⊎_elim, arith, le-leb}
use Rattle.laws.specs.Bools.{split}
use Rattle.laws.specs.Search.{least_ext}
use Rattle.laws.specs.Update.{upd_at, upd_off}
use Rattle.bounds.specs.Bounds.{most_halves}
use Rattle.script.specs.declared.Operator.{Operator}
use Rattle.layout.specs.declared.shape.Shape.{Shape}
use Rattle.layout.specs.Mate.{mate}
use Rattle.layout.specs.Fields.{Field, First, Isolated, Start, Loop, Next, Prev, VertexUsed, Columns, cap_of}
use Rattle.layout.specs.Writes.{write, changes}
use Rattle.euler.specs.Surgery.{no_edge_writes}
use Rattle.euler.specs.Valence.{ends, leave_of, come_of}
use Rattle.euler.specs.Exec.{refusal_of, marks_after}
use Rattle.sound_tables.specs.Sound.{In, HalfUsed, first_of, SameElse}
use Rattle.sound_tables.specs.WriteLaws.{near}
use Rattle.sound_tables.specs.Good.{own, Marked}
use Rattle.sound_tables.specs.Balance.{Mark, Balanced, made_balanced, killed_balanced}
use Rattle.sound_spurs.specs.Relation.{Spur, spur_of, in_b}
use Rattle.sound_spurs.specs.MevSound.{mev_columns, MevPlace, start_k, start_old}
use Rattle.sound_spurs.specs.KevSound.{out_stores, kev_out, kev_columns, Left, left_of, columns_out, out_start_k}
use Rattle.sound_spurs.specs.KevSound.{out_start_b}
use Rattle.sound_spurs.specs.MevAccepted.{Mev, mev_of, new_half, MevFits, mev_facts, new_edge, mev_links_lem}
use Rattle.sound_spurs.specs.MevAccepted.{mev_points, mev_place, mev_shows, mev_good}
use Rattle.sound_spurs.specs.KevAccepted.{kev_of, kev_facts, kev_links_lem, kev_shows}

-- ---- kev on tables that differ in vertex words alone

module _ {sh : Shape} {x y : List ℕ} {p q : List ℤ} (g : Marked sh x p) (h : Marked sh y q)
    (e : SameElse sh (own sh x) (own sh y)) {k : ℕ} (uk : HalfUsed sh (own sh x) k)
    (nk : own sh x Next k ≡ mate k) where
  -- the columns of the one
  abbrev c : Columns
  c = own sh x

  -- and of the other
  abbrev d : Columns
  d = own sh y

  -- what kev reads is the same: before k
  same_P : d Prev k ≡ c Prev k
  same_P = e Prev refl k uk.1

  -- behind its mate
  same_N : d Next (mate k) ≡ c Next (mate k)
  same_N = e Next refl (mate k) (in_b (spur_of g uk nk)).1

  -- k's loop
  same_l : d Loop k ≡ c Loop k
  same_l = e Loop refl k uk.1

  -- where k starts
  same_u : d Start k ≡ c Start k
  same_u = e Start refl k uk.1

  -- where its mate starts
  same_v : d Start (mate k) ≡ c Start (mate k)
  same_v = e Start refl (mate k) (in_b (spur_of g uk nk)).1

  -- the same stores take the edge out
  same_out : kev_out d k ≡ changes (out_stores c k) d
  same_out t = changes (no_edge_writes k (same_P t) (same_N t) k (mate k)) d

  -- so the tables differ as before once it is out
  out_same : SameElse sh (kev_out c k) (kev_out d k)
  out_same F f n i = (λ t. same_out t F n) ∙ near (out_stores c k) d c F n (e F f n i)

  -- the loop's first is the same
  same_first : first_of sh (kev_out d k) (d Loop k) ≡ first_of sh (kev_out c k) (c Loop k)
  same_first = ap (first_of sh (kev_out d k)) same_l
      ∙ least_ext (2 * sh.edges) _ _ (λ i a b. ap (λ z. eqb z (c Loop k)) (out_same Loop refl i b))

  -- and so are the last stores
  columns_aside : (I : ℕ) → SameElse sh (kev_columns sh c k I) (kev_columns sh d k I)
  columns_aside I F f n i =
      (λ t. changes (write First (same_l t) (same_first t) ∷ write Isolated (same_l t) I
      ∷ write VertexUsed (same_v t) 0 ∷ []) (kev_out d k) F n)
      ∙ near (write First (c Loop k) (first_of sh (kev_out c k) (c Loop k)) ∷ write Isolated (c Loop k) I
      ∷ write VertexUsed (c Start (mate k)) 0 ∷ []) (kev_out d k) (kev_out c k) F n (out_same F f n i)

  -- the tables differ as before
  links_aside : SameElse sh (own sh (marks_after sh x (kev_of k))) (own sh (marks_after sh y (kev_of k)))
  links_aside F f n i =
      let uy : HalfUsed sh d k = (uk.0, uk.1, λ z. uk.2 (sym same_u ∙ z)) in
      let ny : d Next k ≡ mate k = e Next refl k uk.1 ∙ nk in
      let l = left_of c k in
      let m : Left d k l.0 = ⊎_elim (λ w. inl (same_N ∙ w.0, w.1 ∙ sym same_u))
      (λ w. inr (λ z. w.0 (sym same_N ∙ z), w.1)) l.1 in
      rw (kev_links_lem g uk nk, kev_links_lem h uy ny)
      ((kev_shows h uy ny m).at F n i ∙ columns_aside l.0 F f n i ∙ sym ((kev_shows g uk nk l.1).at F n i))

-- kev leaves tables that differ in vertex words alone
pub kev_aside : (sh : Shape) (x y : List ℕ) (p q : List ℤ) (o : Operator) → Marked sh x p → Marked sh y q
    → SameElse sh (own sh x) (own sh y) → length o.args ≡ 8 → o.code ≡ 4 → refusal_of sh x o ≡ 0
    → SameElse sh (own sh (marks_after sh x o)) (own sh (marks_after sh y o))
kev_aside sh x y p q o g h e len code r =
    let f = kev_facts sh x o g.capacities len code r in
    subst (λ t. SameElse sh (own sh (marks_after sh x t)) (own sh (marks_after sh y t))) (sym f.is)
    (links_aside g h e f.used f.next)

-- ---- kev

module _ {sh : Shape} {x : List ℕ} {p : List ℤ} (g : Marked sh x p) {k : ℕ} (uk : HalfUsed sh (own sh x) k)
    (nk : own sh x Next k ≡ mate k) {I : ℕ} (left : Left (own sh x) k I) where
  -- the spur
  abbrev sp : Spur sh p (own sh x) k
  sp = spur_of g uk nk

  -- the columns that the links afterwards show
  kev_reads : (F : Field) (n : ℕ) → n ≤ cap_of sh F
      → own sh (marks_after sh x (kev_of k)) F n ≡ kev_columns sh (own sh x) k I F n
  kev_reads F n i = rw (kev_links_lem g uk nk) ((kev_shows g uk nk left).at F n i)

  -- the half-edges of its edge leave
  kev_leaves : leave_of sh x (kev_of k) ≡ ends sh x k
  kev_leaves = rw (le-leb k most_halves (omega (arith, uk.1, g.capacities.edges)))

  -- the mate's vertex is killed, the others stay
  kev_mark : (w : ℕ) → In sh.vertices w
      → Mark (own sh x VertexUsed w) (own sh (marks_after sh x (kev_of k)) VertexUsed w)
  kev_mark w i = split w (own sh x Start (mate k))
      (λ e. inr (inr (kev_reads VertexUsed w i.1 ∙ upd_at (own sh x VertexUsed) 0 e)))
      (λ e. inl (kev_reads VertexUsed w i.1 ∙ upd_off (own sh x VertexUsed) 0 e))

  -- the balance
  kev_balance : Balanced sh x (kev_of k)
  kev_balance = killed_balanced kev_mark k kev_leaves refl g.sound uk
      (kev_reads Start k uk.1 ∙ out_start_k sp left)
      (kev_reads Start (mate k) (in_b sp).1 ∙ out_start_b sp left)
      (λ i j e f. kev_reads Start i j.1 ∙ (columns_out sp left).start i e f)

-- kev kills an edge and the vertex of its mate
pub kev_balanced : (sh : Shape) (x : List ℕ) (p : List ℤ) (o : Operator) → Marked sh x p → length o.args ≡ 8
    → o.code ≡ 4 → refusal_of sh x o ≡ 0 → Balanced sh x o
kev_balanced sh x p o g len e h =
    let f = kev_facts sh x o g.capacities len e h in
    subst (Balanced sh x) (sym f.is) (kev_balance g f.used f.next (left_of (own sh x) f.k).1)

-- ---- mev

module _ {sh : Shape} {x : List ℕ} {p : List ℤ} (g : Marked sh x p) {m : Mev} (r : MevFits sh (own sh x) m) where
  -- its place
  o : MevPlace sh (own sh x) (new_edge (own sh x) m)
  o = mev_place g r

  -- the columns that the links afterwards show
  mev_reads : (F : Field) (n : ℕ) → n ≤ cap_of sh F
      → own sh (marks_after sh x (mev_of m)) F n ≡ mev_columns sh (own sh x) (new_edge (own sh x) m) F n
  mev_reads F n i = rw (mev_links_lem sh x g.capacities r) ((mev_shows g r).at F n i)

  -- the half-edges of the new edge come
  mev_comes : come_of sh (marks_after sh x (mev_of m)) (mev_of m) ≡ ends sh (marks_after sh x (mev_of m)) (new_half m)
  mev_comes = rw (
    le-leb m.edge most_halves (omega (arith, r.edge_in_range.1, g.capacities.edges)),
    le-leb m.way most_halves (omega (arith, r.way)),
  )

  -- the new vertex is made, the others stay
  mev_mark : (w : ℕ) → In sh.vertices w
      → Mark (own sh x VertexUsed w) (own sh (marks_after sh x (mev_of m)) VertexUsed w)
  mev_mark w i = split w m.vertex
      (λ e. inr (inl (
        ap (own sh x VertexUsed) e ∙ r.vertex_free,
        mev_reads VertexUsed w i.1 ∙ upd_at (own sh x VertexUsed) 1 e,
      )))
      (λ e. inl (mev_reads VertexUsed w i.1 ∙ upd_off (own sh x VertexUsed) 1 e))

  -- the balance
  mev_balance : Balanced sh x (mev_of m)
  mev_balance =
      let k = new_half m in
      let gy = subst (λ y. Marked sh y (mev_points p m)) (sym (mev_links_lem sh x g.capacities r)) (mev_good g r) in
      let uk : HalfUsed sh (own sh (marks_after sh x (mev_of m))) k = (
        o.half_in.0,
        o.half_in.1,
        λ z.
            omega (arith, o.corner_in.0, sym (mev_reads Start k o.half_in.1 ∙ start_k o) ∙ z),
      ) in
      made_balanced mev_mark k refl mev_comes gy.sound uk o.half_free o.mate_free
      (λ i j e f. mev_reads Start i j.1 ∙ start_old o i e f)

-- mev makes an edge and a vertex at the end of it
pub mev_balanced : (sh : Shape) (x : List ℕ) (p : List ℤ) (o : Operator) → Marked sh x p → length o.args ≡ 8
    → o.code ≡ 3 → refusal_of sh x o ≡ 0 → Balanced sh x o
mev_balanced sh x p o g len e h =
    let f = mev_facts sh x o g.capacities len e h in
    subst (Balanced sh x) (sym f.is) (mev_balance g f.fits)
