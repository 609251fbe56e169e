-- The pair semv and jekv: where half-edges come and go and which vertices are made and killed (`Balanced`). Two more
-- start at the vertex that divides, elsewhere as many as before. And jekv on two tables that differ in vertex words
-- alone.
use Rattle.std.specs.Prelude.{◌≡◌, refl, ◌≢◌, false, List, ℕ, ◌+◌, ◌*◌, ◌≤◌, eqb, ℤ, length}
use Rattle.std.proofs.Common.{sym, ap, ◌∙◌, subst, inl, inr, arith, le-leb}
use Rattle.std.proofs.lemmas.Bool.{false≢true}
use Rattle.laws.specs.Bools.{split}
use Rattle.laws.specs.Sums.{bit}
use Rattle.laws.specs.Update.{upd, upd_same, upd_off}
use Rattle.bounds.specs.Bounds.{most_halves}
use Rattle.script.specs.declared.Operator.{Operator}
use Rattle.layout.specs.declared.shape.Shape.{Shape}
use Rattle.layout.specs.Mate.{mate}
use Rattle.layout.specs.Fields.{Field, Start, Next, Prev, VertexUsed, Columns, same_field, by_fields}
use Rattle.euler.specs.Valence.{two, none, leave_of, come_of}
use Rattle.euler.specs.Exec.{refusal_of, marks_after}
use Rattle.sound_tables.specs.Cells.{Shows}
use Rattle.sound_tables.specs.Sound.{In, SameElse}
use Rattle.check_items.specs.Rules.{starts_at}
use Rattle.sound_tables.specs.Labels.{many_with}
use Rattle.sound_tables.specs.Good.{own, Marked, marked_shows}
use Rattle.sound_tables.specs.Aside.{mixed, mixed_else, mixed_shows, mixed_sound}
use Rattle.sound_tables.specs.Balance.{UsedOrNone, Balanced, one_changed, many_same, two_changed, times_none}
use Rattle.sound_splits.specs.Relation.{moved, Split, n≢b, n≢m, b≢m}
use Rattle.sound_splits.specs.CycleMoves.{swap_for}
use Rattle.sound_splits.specs.JekvColumns.{Joint, joint_agree, jekv_columns, jekv_split}
use Rattle.sound_splits.specs.Shown.{jekv_shows}
use Rattle.sound_splits.specs.Accepted.{semv_of, jekv_of, semv_facts, semv_links_lem, jekv_facts}
use Rattle.sound_splits.specs.Accepted.{tested_joint, jekv_links_lem}
use Rattle.sound_splits.specs.Exact.{divided, y_shows, rejoined, ky_shows}

-- ---- a division

module _ {sh : Shape} {c d : Columns} {k n v : ℕ} (r : Split sh c d k n v) where
  open r use {place}

  -- two more start at the vertex that divides
  split_many : (w : ℕ) → 1 ≤ w → many_with (2 * sh.edges) (d Start) w
      ≡ many_with (2 * sh.edges) (c Start) w + (bit (eqb v w) + bit (eqb v w))
  split_many w l =
      let f = upd (c Start) (mate k) v in
      let fn : f n ≡ 0 = upd_off (c Start) v (n≢m place) ∙ place.n_free in
      let fb : f (mate n) ≡ 0 = upd_off (c Start) v (b≢m place) ∙ place.b_free in
      omega (
        arith,
        one_changed (2 * sh.edges) (c Start) (mate k) v w (place.m_used.0, place.m_used.1),
        two_changed (2 * sh.edges) f (d Start) n (mate n) w place.n_in place.b_in (n≢b place)
            (λ i j e g. split i (mate k)
            (λ z. ap (d Start) z ∙ r.start_m ∙ sym (ap f z ∙ upd_same (c Start) (mate k) v))
            (λ z. r.start i z e g ∙ sym (upd_off (c Start) v z))),
        ap (λ m. bit (eqb m w)) fn,
        ap (λ m. bit (eqb m w)) fb,
        ap (λ m. bit (eqb m w)) r.start_n,
        ap (λ m. bit (eqb m w)) r.start_b,
        times_none w l,
      )

  module _ {x y : List ℕ} (sx : Shows sh x c) (sy : Shows sh y d) where
    -- the same of the table before, x, and after, y
    tables_many : (w : ℕ) → 1 ≤ w
        → starts_at sh y w ≡ starts_at sh x w + (bit (eqb v w) + bit (eqb v w))
    tables_many w l = omega (
      arith,
      many_same (2 * sh.edges) (d Start) (own sh y Start) w (λ i j. sy.at Start i j.1),
      many_same (2 * sh.edges) (c Start) (own sh x Start) w (λ i j. sx.at Start i j.1),
      split_many w l,
    )

    -- the vertex was free
    was_free : own sh x VertexUsed v ≡ 0
    was_free = sx.at VertexUsed v place.v_in.1 ∙ place.v_free

    -- it is in use
    is_used : UsedOrNone sh y v
    is_used = inr (place.v_in, λ z. r.v_used (sym (sy.at VertexUsed v place.v_in.1) ∙ z))

    -- the others stay
    others_stay : (w : ℕ) → In sh.vertices w → w ≢ v → own sh y VertexUsed w ≡ own sh x VertexUsed w
    others_stay w i e = sy.at VertexUsed w i.1 ∙ r.used w e ∙ sym (sx.at VertexUsed w i.1)

  module _ {x : List ℕ} {o : Operator} where
    -- an operator that divides: two come at the vertex, whose word is 1
    dividing : Shows sh x c → Shows sh (marks_after sh x o) d → d VertexUsed v ≡ 1 → leave_of sh x o ≡ none
        → come_of sh (marks_after sh x o) o ≡ two v v → Balanced sh x o
    dividing sx sy one el ec = record {
      starts = λ w l. rw (el, ec) (omega (arith, tables_many sx sy w l, times_none w l));
      one_way = inl el;
      leave = rw el (inl refl, inl refl);
      come = rw ec (is_used sx sy, is_used sx sy);
      mark = λ w i. split w v
          (λ e. inr (inl (
            ap (own sh x VertexUsed) e ∙ was_free sx sy,
            ap (own sh (marks_after sh x o) VertexUsed) e ∙ sy.at VertexUsed v place.v_in.1 ∙ one,
          )))
          (λ e. inl (others_stay sx sy w i e));
    }

    -- an operator that undoes it: two leave there
    joining : Shows sh x d → Shows sh (marks_after sh x o) c → leave_of sh x o ≡ two v v
        → come_of sh (marks_after sh x o) o ≡ none → Balanced sh x o
    joining sx sy el ec = record {
      starts = λ w l. rw (el, ec) (omega (arith, tables_many sy sx w l, times_none w l));
      one_way = inr ec;
      leave = rw el (is_used sy sx, is_used sy sx);
      come = rw ec (inl refl, inl refl);
      mark = λ w i. split w v
          (λ e. inr (inr (ap (own sh (marks_after sh x o) VertexUsed) e ∙ was_free sy sx)))
          (λ e. inl (sym (others_stay sy sx w i e)));
    }

-- ---- semv and jekv

-- the same list shows the same
shows_same : {sh : Shape} {x y : List ℕ} {c : Columns} → x ≡ y → Shows sh y c → Shows sh x c
shows_same {sh} {c = c} e s = subst (λ z. Shows sh z c) (sym e) s

-- semv makes a vertex at which two half-edges start
pub semv_balanced : (sh : Shape) (x : List ℕ) (p : List ℤ) (o : Operator) → Marked sh x p → length o.args ≡ 8
    → o.code ≡ 11 → refusal_of sh x o ≡ 0 → Balanced sh x o
semv_balanced sh x p o g len e h =
    let f = semv_facts sh x o g.capacities len e h in
    let r = f.fits in
    let m = f.operands in
    let vn = le-leb m.vertex most_halves (omega (arith, r.vertex_in.1, g.capacities.vertices)) in
    let come : come_of sh (marks_after sh x (semv_of m)) (semv_of m) ≡ two m.vertex m.vertex = rw vn in
    subst (Balanced sh x) (sym f.is)
    (dividing (divided g r) (marked_shows g)
    (shows_same (semv_links_lem sh x g.capacities r) (y_shows g r))
    (upd_same (own sh x VertexUsed) m.vertex 1) refl come)

-- jekv kills a vertex at which two half-edges start
pub jekv_balanced : (sh : Shape) (x : List ℕ) (p : List ℤ) (o : Operator) → Marked sh x p → length o.args ≡ 8
    → o.code ≡ 12 → refusal_of sh x o ≡ 0 → Balanced sh x o
jekv_balanced sh x p o g len e h =
    let f = jekv_facts sh x o g.capacities len e h in
    let k = f.k in
    let n = own sh x Next k in
    let j = tested_joint sh x k f.half f.test in
    let a = rejoined g j in
    let kn = le-leb k most_halves (omega (arith, f.half.1, g.capacities.edges)) in
    let leave : leave_of sh x (jekv_of k) ≡ two (own sh x Start n) (own sh x Start n) = rw kn in
    subst (Balanced sh x) (sym f.is)
    (joining a (marked_shows g)
    (shows_same (jekv_links_lem sh x k n g.capacities j a.place.n_in.0) (ky_shows g j))
    leave refl)

-- ---- jekv on tables that differ in vertex words alone

-- the columns after jekv
abbrev joined_up : Shape → Columns → ℕ → ℕ → Columns
joined_up sh d k n = jekv_columns sh d k n (swap_for n k (d Prev (mate n)))

module _ {sh : Shape} {x y : List ℕ} {p q : List ℤ} (g : Marked sh x p) (h : Marked sh y q)
    (e : SameElse sh (own sh x) (own sh y)) {k n : ℕ} (j : Joint sh (own sh x) k n) where
  -- n is a joint in the columns of x with the vertex words of y
  mixed_joint : Joint sh (mixed sh x y) k n
  mixed_joint = record { k_used = j.k_used; next_k = j.next_k; n≢k = j.n≢k; n≢m = j.n≢m; next_b = j.next_b }

  -- and in y
  joint_y : Joint sh (own sh y) k n
  joint_y = joint_agree j (e Start refl k j.k_used.1) (e Next refl k j.k_used.1)
      (e Next refl (mate n) (rejoined g j).place.b_in.1)

  -- what jekv makes of the columns differs in vertex words alone
  columns_aside : (F : Field) → same_field VertexUsed F ≡ false → (i : ℕ)
      → joined_up sh (mixed sh x y) k n F i ≡ joined_up sh (own sh x) k n F i
  columns_aside =
      let a = jekv_split (mixed_sound g h e) mixed_joint in
      by_fields moved (λ F. same_field VertexUsed F ≡ false → (i : ℕ)
      → joined_up sh (mixed sh x y) k n F i ≡ joined_up sh (own sh x) k n F i) (
        λ t i. refl,
        (
          λ t i. refl,
          (
            λ t. absurd (false≢true (sym t)),
            (
              λ t i. refl,
              (
                λ t i. refl,
                (
                  λ t i. refl,
                  (λ t i. refl, tt),
                ),
              ),
            ),
          ),
        ),
      )
      (λ F o t i. sym (a.others F o i) ∙ mixed_else sh x y F t i ∙ (rejoined g j).others F o i)

  -- jekv does the same to both
  links_aside : SameElse sh (own sh (marks_after sh x (jekv_of k))) (own sh (marks_after sh y (jekv_of k)))
  links_aside F t i l =
      let n1 = (rejoined g j).place.n_in.0 in
      rw (jekv_links_lem sh x k n g.capacities j n1, jekv_links_lem sh y k n h.capacities joint_y n1)
      ((jekv_shows (mixed_shows g h e) (mixed_sound g h e) mixed_joint).at F i l ∙ columns_aside F t i
      ∙ sym ((ky_shows g j).at F i l))

-- jekv leaves tables that differ in vertex words alone
pub jekv_aside : (sh : Shape) (x y : List ℕ) (p q : List ℤ) (o : Operator) → Marked sh x p → Marked sh y q
    → SameElse sh (own sh x) (own sh y) → length o.args ≡ 8 → o.code ≡ 12 → refusal_of sh x o ≡ 0
    → SameElse sh (own sh (marks_after sh x o)) (own sh (marks_after sh y o))
jekv_aside sh x y p q o g h e len code r =
    let f = jekv_facts sh x o g.capacities len code r in
    subst (λ t. SameElse sh (own sh (marks_after sh x t)) (own sh (marks_after sh y t))) (sym f.is)
    (links_aside g h e (tested_joint sh x f.k f.half f.test))
