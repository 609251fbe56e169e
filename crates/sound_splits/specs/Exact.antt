-- The pair semv and jekv, vertex words read as marks (`Marked`): a marked table stays marked, and each is undone by
-- the other to the word, jekv where the word of the vertex that it kills is 1. Both are one relation between the
-- columns (`Split`), which each side settles.
use Rattle.std.specs.Prelude.{◌≡◌, refl, List, ℕ, ◌*◌, ◌≤◌, T, ℤ, pos, length}
use Rattle.std.proofs.Common.{sym, ap, ◌∙◌, subst, inr, ⊎_elim, arith, lit≤}
use Rattle.laws.specs.Update.{upd_same}
use Rattle.script.specs.declared.Operator.{Operator}
use Rattle.layout.specs.declared.shape.Shape.{Shape}
use Rattle.layout.specs.Mate.{mate, edge_of}
use Rattle.layout.specs.MateLaws.{mate_range}
use Rattle.layout.specs.Points.{points_length, coordinate, range_test}
use Rattle.euler.specs.Surgery.{put_point}
use Rattle.euler.specs.EdgeOperators.{semv_links, jekv_links}
use Rattle.euler.specs.Exec.{refusal_of}
use Rattle.layout.specs.Fields.{Start, Next, Prev, VertexUsed, Columns}
use Rattle.sound_tables.specs.Cells.{Shows, shows_ext}
use Rattle.sound_tables.specs.Sound.{Sound}
use Rattle.sound_tables.specs.PointLists.{all_three, put_length, put_at, put_back, put_cleared, points_new}
use Rattle.sound_tables.specs.PointLists.{points_cleared}
use Rattle.sound_tables.specs.Good.{own, Marked, marked_shows, marked_after}
use Rattle.sound_tables.specs.Undone.{Kept, Undone, Low, Gone}
use Rattle.sound_splits.specs.CycleMoves.{swap_for}
use Rattle.sound_splits.specs.Relation.{Place, aft, Split, n≢k, n≢m, used_old}
use Rattle.sound_splits.specs.Unique.{unique_after, unique_before}
use Rattle.sound_splits.specs.Sound.{split_sound, join_sound}
use Rattle.sound_splits.specs.SemvColumns.{semv_columns, semv_split}
use Rattle.sound_splits.specs.JekvColumns.{Joint, joint_agree, jekv_columns, jekv_split}
use Rattle.sound_splits.specs.Shown.{semv_shows, jekv_shows}
use Rattle.sound_tables.specs.HalfNumbers.{edge_by, way_by, way_small, half_is, second_half}
use Rattle.sound_tables.specs.Names.{free_halves}
use Rattle.sound_splits.specs.Accepted.{Semv, semv_of, jekv_of, new_half, SemvFits, jekv_back, semv_facts}
use Rattle.sound_splits.specs.Accepted.{semv_links_lem}
use Rattle.sound_splits.specs.Accepted.{semv_points, semv_inverse_lem, semv_accepted, jekv_facts, tested_joint}
use Rattle.sound_splits.specs.Accepted.{jekv_links_lem, jekv_killed, jekv_points, jekv_inverse, jekv_accepted}

-- ---- semv

module _ {sh : Shape} {x : List ℕ} {p : List ℤ} (g : Marked sh x p) {m : Semv} (r : SemvFits sh (own sh x) m) where
  -- the half-edge that is divided
  abbrev k : ℕ
  k = m.half

  -- the vertex that divides it
  abbrev v : ℕ
  v = m.vertex

  -- the new half-edge after k
  abbrev n : ℕ
  n = new_half m

  -- the columns afterwards
  abbrev d : Columns
  d = semv_columns sh (own sh x) m.half (new_half m) m.vertex
      (aft m.half (new_half m) (own sh x Prev (mate m.half)))

  -- the links
  abbrev y : List ℕ
  y = semv_links sh x m.half (new_half m) m.vertex

  -- and the points
  abbrev q : List ℤ
  q = put_point p m.vertex m.x m.y m.z

  -- where it goes
  place : Place sh (own sh x) k n v
  place =
      let f = free_halves g.sound m.edge m.way r.edge_in_range r.edge_free in
      record {
        k_used = r.half;
        m_used = g.sound.rules.mate_in k r.half;
        n_in = f.0;
        b_in = mate_range n sh.edges f.0.0 f.0.1;
        n_free = f.1;
        b_free = f.2;
        v_in = r.vertex_in;
        v_free = r.vertex_free;
      }

  -- v divides k
  pub divided : Split sh (own sh x) d k n v
  divided = semv_split g.sound place

  -- the list shows it
  pub y_shows : Shows sh y d
  y_shows = semv_shows (marked_shows g) g.sound place

  -- and it is sound
  d_sound : Sound sh q d
  d_sound = split_sound divided g.sound
      (points_new sh p (own sh x) d v g.points r.vertex_in g.sound.point divided.used
      m.x m.y m.z (r.range 0 (lit≤ tt)) (r.range 1 (lit≤ tt)) (r.range 2 (lit≤ tt))
      (upd_same (own sh x VertexUsed) v 1))

  -- a marked table stays marked
  semv_kept : Kept sh x p (semv_of m)
  semv_kept = rw (semv_links_lem sh x g.capacities r, semv_points sh x g.capacities r p)
      (marked_after g y_shows (λ i. refl) (put_length p v m.x m.y m.z) d_sound)

  -- n is a joint
  d_joint : Joint sh d k n
  d_joint = record {
    k_used = used_old divided k r.half;
    next_k = divided.next_k;
    n≢k = n≢k place;
    n≢m = n≢m place;
    next_b = divided.next_b;
  }

  -- the same on the list
  y_joint : Joint sh (own sh y) k n
  y_joint = joint_agree d_joint (y_shows.at Start k r.half.1) (y_shows.at Next k r.half.1)
      (y_shows.at Next (mate n) place.b_in.1)

  -- n starts at v
  y_start : own sh y Start n ≡ v
  y_start = y_shows.at Start n place.n_in.1 ∙ divided.start_n

  -- jekv leads back
  semv_back : jekv_links sh y k n ≡ x
  semv_back = shows_ext (jekv_shows y_shows d_sound d_joint) (marked_shows g)
      (unique_before (jekv_split d_sound d_joint)
      (subst (λ t. Split sh (own sh x) d k n t) (sym divided.start_n) divided))

  -- jekv gives everything back
  semv_undone : Undone sh x p (semv_of m)
  semv_undone =
      let el = semv_links_lem sh x g.capacities r in
      let ep = semv_points sh x g.capacities r p in
      let ei = semv_inverse_lem sh x g.capacities r p in
      let lo : points_length v ≤ length p = omega (arith, g.points, r.vertex_in.1) in
      let at = put_at p v m.x m.y m.z r.vertex_in.0 lo in
      let n1 = place.n_in.0 in
      record {
        accepted = rw (el, ei) (jekv_accepted sh y k n g.capacities y_joint n1);
        links = rw (el, ei) (jekv_links_lem sh y k n g.capacities y_joint n1 ∙ semv_back);
        points = rw (el, ep, ei)
            (jekv_points sh y k n g.capacities y_joint n1 q ∙ ap (λ t. put_point q t (pos 0) (pos 0) (pos 0)) y_start
            ∙ put_cleared sh.vertices p v m.x m.y m.z g.points r.vertex_in
            ((g.sound.point v r.vertex_in).zero r.vertex_free));
        again = rw (el, ep, ei) (jekv_inverse sh y k n g.capacities y_joint n1 q ∙ (λ t. semv_of (record {
          half = k;
          edge = edge_by m.edge m.way r.edge_in_range.0 t;
          vertex = y_start t;
          way = way_by m.edge m.way r.edge_in_range.0 r.way t;
          x = (ap (λ w. coordinate q w 0) y_start ∙ at 0 (omega arith)) t;
          y = (ap (λ w. coordinate q w 1) y_start ∙ at 1 (omega arith)) t;
          z = (ap (λ w. coordinate q w 2) y_start ∙ at 2 (omega arith)) t;
        })));
      }

-- ---- jekv

module _ {sh : Shape} {x : List ℕ} {p : List ℤ} (g : Marked sh x p) {k n : ℕ} (o : Joint sh (own sh x) k n) where
  -- the vertex that goes
  abbrev kv : ℕ
  kv = own sh x Start n

  -- the columns afterwards
  abbrev kc : Columns
  kc = jekv_columns sh (own sh x) k n (swap_for n k (own sh x Prev (mate n)))

  -- the links
  abbrev ky : List ℕ
  ky = jekv_links sh x k n

  -- and the points
  abbrev kq : List ℤ
  kq = put_point p (own sh x Start n) (pos 0) (pos 0) (pos 0)

  -- n's start divides k
  pub rejoined : Split sh kc (own sh x) k n kv
  rejoined = jekv_split g.sound o

  -- the list shows what was divided
  pub ky_shows : Shows sh ky kc
  ky_shows = jekv_shows (marked_shows g) g.sound o

  -- n is a number of a half-edge
  n1 : 1 ≤ n
  n1 = rejoined.place.n_in.0

  -- and it is sound
  c_sound : Sound sh kq kc
  c_sound = join_sound rejoined g.sound
      (points_cleared sh p (own sh x) kc kv g.points rejoined.place.v_in g.sound.point
      (λ w h. sym (rejoined.used w h)))

  -- a marked table stays marked
  jekv_kept : Kept sh x p (jekv_of k)
  jekv_kept = rw (jekv_links_lem sh x k n g.capacities o n1, jekv_points sh x k n g.capacities o n1 p)
      (marked_after g ky_shows (λ i. refl) (put_length p kv (pos 0) (pos 0) (pos 0)) c_sound)

  -- semv fits there
  ky_fits : SemvFits sh (own sh ky) (jekv_back sh x p k n)
  ky_fits =
      let w = rejoined.place in
      let u : edge_of n ≤ sh.edges = omega (arith, w.n_in.1) in
      let s = (g.sound.point kv w.v_in).range in
      record {
        half = (w.k_used.0, w.k_used.1, λ h. w.k_used.2 (sym (ky_shows.at Start k w.k_used.1) ∙ h));
        edge_in_range = (omega (arith, n1), u);
        edge_free = ky_shows.at Start (2 * edge_of n) (omega (arith, u)) ∙ ⊎_elim (λ h. ap (kc Start) h ∙ w.n_free)
            (λ h. ap (kc Start) h ∙ w.b_free) (second_half n);
        vertex_in = w.v_in;
        vertex_free = ky_shows.at VertexUsed kv w.v_in.1 ∙ w.v_free;
        way = way_small n;
        range = all_three (λ z. T (range_test z)) _ _ _ (s 0 (omega arith)) (s 1 (omega arith)) (s 2 (omega arith));
      }

  -- semv leads back, where the word of the vertex was 1
  jekv_back_lem : own sh x VertexUsed kv ≤ 1 → semv_links sh ky k n kv ≡ x
  jekv_back_lem low = shows_ext (semv_shows ky_shows c_sound rejoined.place) (marked_shows g)
      (unique_after (semv_split c_sound rejoined.place) rejoined
      (upd_same (kc VertexUsed) kv 1 ∙ (let u = rejoined.v_used in omega (arith, low, u))))

  -- semv gives everything back
  jekv_undone : own sh x VertexUsed kv ≤ 1 → Undone sh x p (jekv_of k)
  jekv_undone low =
      let el = jekv_links_lem sh x k n g.capacities o n1 in
      let ep = jekv_points sh x k n g.capacities o n1 p in
      let ei = jekv_inverse sh x k n g.capacities o n1 p in
      record {
        accepted = rw (el, ei) (semv_accepted sh ky g.capacities ky_fits);
        links = rw (el, ei) (semv_links_lem sh ky g.capacities ky_fits
            ∙ ap (λ t. semv_links sh ky k t kv) (half_is n n1)
            ∙ jekv_back_lem low);
        points = rw (el, ep, ei) (semv_points sh ky g.capacities ky_fits kq ∙ put_back sh.vertices p kv (pos 0)
            (pos 0) (pos 0) g.points rejoined.place.v_in);
        again = rw (el, ep, ei) (semv_inverse_lem sh ky g.capacities ky_fits kq);
      }

-- ---- as operators

-- both for semv
pub semv_holds : (sh : Shape) (x : List ℕ) (p : List ℤ) (o : Operator) → Marked sh x p → length o.args ≡ 8
    → o.code ≡ 11 → refusal_of sh x o ≡ 0 → Kept sh x p o × Undone sh x p o
semv_holds sh x p o g len e h =
    let f = semv_facts sh x o g.capacities len e h in
    subst (λ q. Kept sh x p q × Undone sh x p q) (sym f.is) (semv_kept g f.fits, semv_undone g f.fits)

-- both for jekv: it is undone where the word of the vertex that it kills is 1
pub jekv_holds : (sh : Shape) (x : List ℕ) (p : List ℤ) (o : Operator) → Marked sh x p → length o.args ≡ 8
    → o.code ≡ 12 → refusal_of sh x o ≡ 0 → Kept sh x p o × (Low sh x o → Undone sh x p o)
jekv_holds sh x p o g len e h =
    let f = jekv_facts sh x o g.capacities len e h in
    let j = tested_joint sh x f.k f.half f.test in
    let i = (g.sound.rules.loops.perm.f_in f.k f.half).0 in
    let v = jekv_killed sh x f.k (own sh x Next f.k) g.capacities j i in
    subst (λ q. Kept sh x p q × (Low sh x q → Undone sh x p q)) (sym f.is)
    (jekv_kept g j, λ low. jekv_undone g j (rw v at low))

-- the vertex that jekv kills is free afterwards
pub jekv_gone : (sh : Shape) (x : List ℕ) (p : List ℤ) (o : Operator) → Marked sh x p → length o.args ≡ 8
    → o.code ≡ 12 → refusal_of sh x o ≡ 0 → Gone sh x o
jekv_gone sh x p o g len e h =
    let f = jekv_facts sh x o g.capacities len e h in
    let j = tested_joint sh x f.k f.half f.test in
    let i = n1 g j in
    let t = ky_fits g j in
    let n = own sh x Next f.k in
    subst (Gone sh x) (sym f.is) (rw (
      jekv_killed sh x f.k n g.capacities j i,
      jekv_links_lem sh x f.k n g.capacities j i,
    ) (inr (t.vertex_in, t.vertex_free)))
