-- What an operator does to the starts of half-edges and to the marks of vertices: how many half-edges start at a vertex
-- changes where `leave_of` and `come_of` say, and the mark of a vertex that is neither made nor killed stays.
use Rattle.std.specs.Prelude.{◌≡◌, refl, ◌≢◌, ◌⊎◌, List, ℕ, ◌+◌, ◌*◌, ◌≤◌, eqb, ℤ}
use Rattle.std.proofs.Common.{sym, ap, ◌∙◌, inl, inr, arith}
use Rattle.laws.specs.Bools.{split, eqb_other}
use Rattle.laws.specs.Sums.{bit, sum_ext, sum_change}
use Rattle.laws.specs.Update.{upd, upd_same, upd_off}
use Rattle.script.specs.declared.Operator.{Operator}
use Rattle.layout.specs.declared.shape.Shape.{Shape}
use Rattle.layout.specs.Layout.{start_of}
use Rattle.layout.specs.Mate.{mate}
use Rattle.layout.specs.Fields.{Start, VertexUsed, Columns}
use Rattle.check_items.specs.Rules.{starts_at}
use Rattle.euler.specs.declared.records.Two.{Two}
use Rattle.euler.specs.Valence.{two, none, ends, leave_of, come_of}
use Rattle.euler.specs.Exec.{marks_after}
use Rattle.sound_tables.specs.Mates.{mate_other}
use Rattle.sound_tables.specs.Sound.{In, HalfUsed, Sound}
use Rattle.sound_tables.specs.Labels.{many_with}
use Rattle.sound_tables.specs.Cells.{Shows}
use Rattle.sound_tables.specs.Good.{own}

-- how many of the two are w
abbrev pub times : Two → ℕ → ℕ
times t w = bit (eqb t.one w) + bit (eqb t.other w)

-- vertex v is in use, or none
abbrev pub UsedOrNone : Shape → List ℕ → ℕ → Type 0
UsedOrNone sh x v = (v ≡ 0) ⊎ (In sh.vertices v × (own sh x VertexUsed v ≢ 0))

-- a mark a becomes b: it stays, or the vertex is made, or it is killed
abbrev pub Mark : ℕ → ℕ → Type 0
Mark a b = (b ≡ a) ⊎ (((a ≡ 0) × (b ≡ 1)) ⊎ (b ≡ 0))

-- operator o on the table x
pub record Balanced (sh : Shape) (x : List ℕ) (o : Operator) : Type 0 where
  pub starts : (w : ℕ) → 1 ≤ w → starts_at sh (marks_after sh x o) w + times (leave_of sh x o) w
      ≡ starts_at sh x w + times (come_of sh (marks_after sh x o) o) w
  pub one_way : (leave_of sh x o ≡ none) ⊎ (come_of sh (marks_after sh x o) o ≡ none)
  pub leave : UsedOrNone sh x (leave_of sh x o).one × UsedOrNone sh x (leave_of sh x o).other
  pub come : UsedOrNone sh (marks_after sh x o) (come_of sh (marks_after sh x o) o).one
      × UsedOrNone sh (marks_after sh x o) (come_of sh (marks_after sh x o) o).other
  pub mark : (w : ℕ) → In sh.vertices w → Mark (own sh x VertexUsed w) (own sh (marks_after sh x o) VertexUsed w)

-- ---- counts

-- one label changes
pub one_changed : (n : ℕ) (f : ℕ → ℕ) (a v w : ℕ) → In n a
    → many_with n (upd f a v) w + bit (eqb (f a) w) ≡ many_with n f w + bit (eqb v w)
one_changed n f a v w i =
    let c = sum_change n (λ k. bit (eqb (upd f a v k) w)) (λ k. bit (eqb (f k) w)) a i.0 i.1
    (λ k d. ap (λ m. bit (eqb m w)) (upd_off f v d)) in
    c ∙ ap (λ m. many_with n f w + bit (eqb m w)) (upd_same f a v)

-- labels that agree are as many
pub many_same : (n : ℕ) (f g : ℕ → ℕ) (w : ℕ) → ((k : ℕ) → In n k → g k ≡ f k) → many_with n g w ≡ many_with n f w
many_same n f g w e = sum_ext n _ _ (λ k a b. ap (λ m. bit (eqb m w)) (e k (a, b)))

-- two labels change
pub two_changed : (n : ℕ) (f g : ℕ → ℕ) (a b w : ℕ) → In n a → In n b → a ≢ b
    → ((k : ℕ) → In n k → k ≢ a → k ≢ b → g k ≡ f k)
    → many_with n g w + (bit (eqb (f a) w) + bit (eqb (f b) w))
    ≡ many_with n f w + (bit (eqb (g a) w) + bit (eqb (g b) w))
two_changed n f g a b w i j d e =
    let h = upd (upd f a (g a)) b (g b) in
    let same : (k : ℕ) → In n k → g k ≡ h k = λ k m. split k b
    (λ q. ap g q ∙ sym (ap h q ∙ upd_same (upd f a (g a)) b (g b)))
    (λ q. split k a
    (λ r. ap g r ∙ sym (upd_off (upd f a (g a)) (g b) q ∙ ap (upd f a (g a)) r ∙ upd_same f a (g a)))
    (λ r. e k m r q ∙ sym (upd_off (upd f a (g a)) (g b) q ∙ upd_off f (g a) r))) in
    let off : upd f a (g a) b ≡ f b = upd_off f (g a) (λ z. d (sym z)) in
    omega (
      arith,
      many_same n h g w same,
      one_changed n f a (g a) w i,
      one_changed n (upd f a (g a)) b (g b) w j,
      ap (λ m. bit (eqb m w)) off,
    )

-- 0 is no vertex
pub times_none : (w : ℕ) → 1 ≤ w → bit (eqb 0 w) ≡ 0
times_none w h = ap bit (eqb_other {m = 0} {n = w} (omega arith))

-- ---- both halves of an edge in use

module _ {sh : Shape} (x : List ℕ) {q : List ℤ} (a : Sound sh q (own sh x)) {k : ℕ} (u : HalfUsed sh (own sh x) k) where
  -- their numbers are in range
  both_in : In (2 * sh.edges) k × In (2 * sh.edges) (mate k)
  both_in = let m = a.rules.mate_in k u in ((u.0, u.1), (m.0, m.1))

  -- and they start at vertices in use
  both_used : UsedOrNone sh x (start_of sh x k) × UsedOrNone sh x (start_of sh x (mate k))
  both_used =
      let m = a.rules.mate_in k u in
      let h = a.half k (u.0, u.1) u.2 in
      let b = a.half (mate k) (m.0, m.1) m.2 in
      (inr (h.start_in, h.start_used), inr (b.start_in, b.start_used))

-- ---- the three kinds of operator

module _ {sh : Shape} {x : List ℕ} {o : Operator}
    (mark : (w : ℕ) → In sh.vertices w
    → Mark (own sh x VertexUsed w) (own sh (marks_after sh x o) VertexUsed w)) where
  -- no half-edge comes or goes
  pub still_balanced : leave_of sh x o ≡ none → come_of sh (marks_after sh x o) o ≡ none
      → ((i : ℕ) → In (2 * sh.edges) i → own sh (marks_after sh x o) Start i ≡ own sh x Start i) → Balanced sh x o
  still_balanced el ec e = record {
    starts = λ w h. rw (el, ec) (ap (λ n. n + (bit (eqb 0 w) + bit (eqb 0 w)))
        (many_same (2 * sh.edges) (own sh x Start) (own sh (marks_after sh x o) Start) w e));
    one_way = inl el;
    leave = rw el (inl refl, inl refl);
    come = rw ec (inl refl, inl refl);
    mark = mark;
  }

  -- the edge of k comes or goes: no other half-edge changes its start
  edge_balanced : (k : ℕ) → In (2 * sh.edges) k × In (2 * sh.edges) (mate k) → leave_of sh x o ≡ ends sh x k
      → come_of sh (marks_after sh x o) o ≡ ends sh (marks_after sh x o) k
      → (leave_of sh x o ≡ none) ⊎ (come_of sh (marks_after sh x o) o ≡ none)
      → UsedOrNone sh x (start_of sh x k) × UsedOrNone sh x (start_of sh x (mate k))
      → UsedOrNone sh (marks_after sh x o) (start_of sh (marks_after sh x o) k)
      × UsedOrNone sh (marks_after sh x o) (start_of sh (marks_after sh x o) (mate k))
      → ((i : ℕ) → In (2 * sh.edges) i → i ≢ k → i ≢ mate k → own sh (marks_after sh x o) Start i ≡ own sh x Start i)
      → Balanced sh x o
  edge_balanced k i el ec one a b e = record {
    starts = λ w l. rw (el, ec) (two_changed (2 * sh.edges) (own sh x Start) (own sh (marks_after sh x o) Start) k
        (mate k) w i.0 i.1 (mate_other k i.0.0) e);
    one_way = one;
    leave = rw el a;
    come = rw ec b;
    mark = mark;
  }

  -- it comes: its halves were free
  pub made_balanced : {q : List ℤ} (k : ℕ) → leave_of sh x o ≡ none
      → come_of sh (marks_after sh x o) o ≡ ends sh (marks_after sh x o) k
      → Sound sh q (own sh (marks_after sh x o)) → HalfUsed sh (own sh (marks_after sh x o)) k
      → own sh x Start k ≡ 0 → own sh x Start (mate k) ≡ 0
      → ((i : ℕ) → In (2 * sh.edges) i → i ≢ k → i ≢ mate k → own sh (marks_after sh x o) Start i ≡ own sh x Start i)
      → Balanced sh x o
  made_balanced k el ec a u fk fm = edge_balanced k (both_in _ a u) (el ∙ (λ t. two (sym fk t) (sym fm t))) ec (inl el)
      (inl fk, inl fm) (both_used _ a u)

  -- it goes: its halves are free
  pub killed_balanced : {q : List ℤ} (k : ℕ) → leave_of sh x o ≡ ends sh x k → come_of sh (marks_after sh x o) o ≡ none
      → Sound sh q (own sh x) → HalfUsed sh (own sh x) k
      → own sh (marks_after sh x o) Start k ≡ 0 → own sh (marks_after sh x o) Start (mate k) ≡ 0
      → ((i : ℕ) → In (2 * sh.edges) i → i ≢ k → i ≢ mate k → own sh (marks_after sh x o) Start i ≡ own sh x Start i)
      → Balanced sh x o
  killed_balanced k el ec a u fk fm = edge_balanced k (both_in _ a u) el (ec ∙ (λ t. two (sym fk t) (sym fm t)))
      (inr ec)
      (both_used _ a u) (inl fk, inl fm)

-- no half-edge comes or goes, seen through the columns afterwards
pub shown_still : {sh : Shape} {x : List ℕ} {o : Operator} {d : Columns} → Shows sh (marks_after sh x o) d
    → leave_of sh x o ≡ none → come_of sh (marks_after sh x o) o ≡ none → ((i : ℕ) → d Start i ≡ own sh x Start i)
    → ((w : ℕ) → In sh.vertices w → Mark (own sh x VertexUsed w) (d VertexUsed w)) → Balanced sh x o
shown_still s el ec e m =
    still_balanced (λ w i. rw (s.at VertexUsed w i.1) (m w i)) el ec (λ i j. s.at Start i j.1 ∙ e i)
