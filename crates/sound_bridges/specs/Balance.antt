-- mekr and kemr, and the words of vertices: kemr does the same to tables that differ in vertex words alone, and
-- half-edges come and go where the words are counted.
use Rattle.std.specs.Prelude.{◌≡◌, refl, List, ℕ, zero, suc, ◌*◌, ◌≤◌, ℤ, length}
use Rattle.std.proofs.Common.{sym, ◌∙◌, subst, inl, arith}
use Rattle.script.specs.declared.Operator.{Operator}
use Rattle.layout.specs.declared.shape.Shape.{Shape}
use Rattle.layout.specs.Mate.{mate}
use Rattle.layout.specs.Fields.{Field, Face, Start, Loop, Next, Prev, VertexUsed, cap_of}
use Rattle.euler.specs.Surgery.{half_by}
use Rattle.euler.specs.Exec.{refusal_of, marks_after}
use Rattle.sound_tables.specs.Sound.{SameElse}
use Rattle.sound_tables.specs.Good.{own, Marked}
use Rattle.sound_tables.specs.Balance.{Balanced, made_balanced, killed_balanced}
use Rattle.sound_bridges.specs.Relation.{Bridged, new_k, new_a}
use Rattle.sound_bridges.specs.Unique.{down_else}
use Rattle.sound_bridges.specs.MekrColumns.{mekr_columns, up_bridged}
use Rattle.sound_bridges.specs.MekrShown.{mekr_shows}
use Rattle.sound_bridges.specs.KemrColumns.{span_bridge, kemr_columns, Span, walk, down_bridged}
use Rattle.sound_bridges.specs.KemrShown.{kemr_sound, kemr_shows}
use Rattle.sound_bridges.specs.MekrAccepted.{mekr_of, mekr_bridge, MekrFacts, mekr_said, mekr_links_lem, mekr_come}
use Rattle.sound_bridges.specs.KemrAccepted.{kemr_of, kemr_facts, kemr_links_lem, kemr_leave}
use Rattle.sound_bridges.specs.Exact.{mekr_ends, mekr_kept}

-- ---- kemr

module _ {sh : Shape} {x : List ℕ} {p : List ℤ} (g : Marked sh x p) {k l2 : ℕ} (o : Span sh (own sh x) k l2) where
  -- what stands in the list after kemr
  after_kemr : (F : Field) (n : ℕ) → n ≤ cap_of sh F
      → own sh (marks_after sh x (kemr_of k l2)) F n ≡ kemr_columns sh (own sh x) k l2 (walk g.sound o).0 F n
  after_kemr F n i = rw (kemr_links_lem sh x g.capacities o) ((kemr_shows g o).at F n i)

  -- the edge of k goes
  kemr_goes : Balanced sh x (kemr_of k l2)
  kemr_goes =
      let b = down_bridged g.sound o in
      killed_balanced (λ v i. inl (after_kemr VertexUsed v i.1 ∙ sym (b.others VertexUsed refl v))) k
      (kemr_leave sh x g.capacities o) refl g.sound o.half
      (after_kemr Start k b.ends.half_in.1 ∙ b.ends.zero_k.s)
      (after_kemr Start (mate k) b.ends.mate_in.1 ∙ b.ends.zero_a.s)
      (λ i j e f. after_kemr Start i j.1 ∙ sym (b.start_o i e f))

-- half-edges leave where the words are counted
pub kemr_balanced : (sh : Shape) (x : List ℕ) (p : List ℤ) (o : Operator) → Marked sh x p → length o.args ≡ 8
    → o.code ≡ 7 → refusal_of sh x o ≡ 0 → Balanced sh x o
kemr_balanced sh x p o g len e h =
    let f = kemr_facts sh x o g.capacities len e h in
    subst (Balanced sh x) (sym f.is) (kemr_goes g f.span)

-- ---- mekr

-- the edge comes
mekr_comes : {sh : Shape} {x : List ℕ} {p : List ℤ} (g : Marked sh x p) {l h1 l2 h2 e w : ℕ}
    → MekrFacts sh (own sh x) l h1 l2 h2 e w → Balanced sh x (mekr_of l h1 l2 h2 e w)
mekr_comes {sh} {x} g {l} {h1} {l2} {h2} {e} {w} r =
    let k = half_by e w in
    let B = mekr_bridge (own sh x) (half_by e w) l h1 l2 h2 in
    let z = mekr_ends g r refl in
    let b = up_bridged z in
    let after : (F : Field) (n : ℕ) → n ≤ cap_of sh F
    → own sh (marks_after sh x (mekr_of l h1 l2 h2 e w)) F n ≡ mekr_columns sh (own sh x) B F n = λ F n i.
    rw (mekr_links_lem sh x g.capacities r (half_by e w) refl) ((mekr_shows g z).at F n i) in
    let u = new_k b in
    made_balanced (λ v i. inl (after VertexUsed v i.1 ∙ b.others VertexUsed refl v)) k refl
    (mekr_come sh x g.capacities r k refl _) (mekr_kept g r refl).sound
    (u.0, u.1, λ q. u.2 (sym (after Start k u.1) ∙ q)) z.zero_k.s z.zero_a.s
    (λ i j m n. after Start i j.1 ∙ b.start_o i m n)

-- half-edges come where the words are counted
pub mekr_balanced : (sh : Shape) (x : List ℕ) (p : List ℤ) (o : Operator) → Marked sh x p → length o.args ≡ 8
    → o.code ≡ 8 → refusal_of sh x o ≡ 0 → Balanced sh x o
mekr_balanced sh x p o g len e h =
    let r = mekr_said sh x o g.capacities len e h in
    subst (Balanced sh x) (sym r.is) (mekr_comes g r.facts)

-- ---- tables that differ in vertex words alone

module _ {sh : Shape} {x y : List ℕ} {p q : List ℤ} (g : Marked sh x p) (h : Marked sh y q)
    (e : SameElse sh (own sh x) (own sh y)) {k l2 : ℕ} (o : Span sh (own sh x) k l2) where
  -- the mate is an item
  mate_most : mate k ≤ 2 * sh.edges
  mate_most = (new_a (down_bridged g.sound o)).1

  -- what is asked of x is true of y
  span_y : Span sh (own sh y) k l2
  span_y = record {
    half = (o.half.0, o.half.1, λ z. o.half.2 (sym (e Start refl k o.half.1) ∙ z));
    one = e Loop refl (mate k) mate_most ∙ o.one ∙ sym (e Loop refl k o.half.1);
    ring_in = o.ring_in;
    free = e Face refl l2 o.ring_in.1 ∙ o.free;
  }

  -- the bridge is the same
  bridge_y : span_bridge (own sh y) k l2 ≡ span_bridge (own sh x) k l2
  bridge_y = λ t. record {
    k = k;
    l = e Loop refl k o.half.1 t;
    l2 = l2;
    u1 = e Start refl k o.half.1 t;
    P1 = e Prev refl k o.half.1 t;
    N1 = e Next refl (mate k) mate_most t;
    u2 = e Start refl (mate k) mate_most t;
    P2 = e Prev refl (mate k) mate_most t;
    N2 = e Next refl k o.half.1 t;
  }

  -- kemr does the same to both
  aside_at : SameElse sh (own sh (marks_after sh x (kemr_of k l2))) (own sh (marks_after sh y (kemr_of k l2)))
  aside_at F t zero i = refl
  aside_at F t (suc n) i = after_kemr h span_y F (suc n) i
      ∙ sym (down_else (kemr_sound g o) (kemr_sound h span_y) (down_bridged g.sound o)
      (subst (Bridged sh _ _) bridge_y (down_bridged h.sound span_y)) (λ G r m a b. sym (e G r m b)) F t (suc n)
      (omega arith) i) ∙ sym (after_kemr g o F (suc n) i)

-- kemr leaves tables that differ in vertex words alone
pub kemr_aside : (sh : Shape) (x y : List ℕ) (p q : List ℤ) (o : Operator) → Marked sh x p → Marked sh y q
    → SameElse sh (own sh x) (own sh y) → length o.args ≡ 8 → o.code ≡ 7 → refusal_of sh x o ≡ 0
    → SameElse sh (own sh (marks_after sh x o)) (own sh (marks_after sh y o))
kemr_aside sh x y p q o g h e len code a =
    let f = kemr_facts sh x o g.capacities len code a in
    subst (λ r. SameElse sh (own sh (marks_after sh x r)) (own sh (marks_after sh y r))) (sym f.is)
    (aside_at g h e f.span)
