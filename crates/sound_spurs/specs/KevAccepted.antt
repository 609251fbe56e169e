-- kev as an operator: what it says that it is accepted, what it does to links and points, and that a marked table stays
-- marked.
use Rattle.std.specs.Prelude.{◌≡◌, true, List, ℕ, ◌*◌, leb, ℤ, pos, length}
use Rattle.std.proofs.Math.Path.{refl}
use Rattle.std.proofs.Common.{sym, ap, ◌∙◌, ⊎_elim, arith, eqb→eq, le-leb}
use Rattle.laws.specs.Bools.{true_T, split, eqb_same, eqb_other}
use Rattle.laws.specs.Update.{upd_off}
use Rattle.bounds.specs.Bounds.{most_halves}
use Rattle.script.specs.declared.Operator.{Operator}
use Rattle.codec.specs.Operands.{pattern, rows}
use Rattle.layout.specs.declared.shape.Shape.{Shape}
use Rattle.layout.specs.Layout.{set_vertex_used}
use Rattle.layout.specs.Mate.{mate, edge_of}
use Rattle.layout.specs.Points.{coordinate}
use Rattle.euler.specs.Surgery.{way_of, put_point, edge_out, renew}
use Rattle.euler.specs.EdgeOperators.{kev_test, kev_links}
use Rattle.euler.specs.Exec.{use_word, condition, refusal_of, marks_after, killed_vertex, points_after, inverse}
use Rattle.layout.specs.Fields.{First, Start, Loop, Next, Prev, VertexUsed, Columns}
use Rattle.sound_tables.specs.Cells.{Shows, shows_put}
use Rattle.sound_tables.specs.Labels.{label_none}
use Rattle.sound_tables.specs.Sound.{HalfUsed, first_of, Sound}
use Rattle.sound_tables.specs.PointLists.{put_length, points_cleared}
use Rattle.sound_tables.specs.OneOperand.{one_of, one_operand, one_accepted}
use Rattle.sound_tables.specs.Good.{own, Capacities, Marked, marked_shows, marked_after}
use Rattle.sound_tables.specs.CornerTest.{corner_left}
use Rattle.sound_tables.specs.FirstLow.{first_low_lem}
use Rattle.sound_tables.specs.Shown.{with_first, shows_no_edge, shows_first, shows_isolated}
use Rattle.sound_spurs.specs.MevSound.{NewEdge}
use Rattle.sound_spurs.specs.MevAccepted.{Mev, mev_of}
use Rattle.sound_spurs.specs.Relation.{Spur, spur_of, used_N, in_k, in_b, in_P, in_N, prev_b, Nb, spur_loop_b}
use Rattle.sound_spurs.specs.Relation.{spur_loop_N, spur_loop_in, far_in}
use Rattle.sound_spurs.specs.KevSound.{kev_out, kev_columns, Left, columns_out, half_stays, kev_rules, free_half}
use Rattle.sound_spurs.specs.KevSound.{none_named, kev_sound}

-- kev k
abbrev pub kev_of : ℕ → Operator
kev_of = one_of 4

-- what an accepted kev says
pub record KevFacts (sh : Shape) (c : Columns) (o : Operator) : Type 0 where
  pub k : ℕ
  pub is : o ≡ kev_of k
  pub used : HalfUsed sh c k
  pub next : c Next k ≡ mate k

-- all from the refusal 0
pub kev_facts : (sh : Shape) (x : List ℕ) (o : Operator) → Capacities sh → length o.args ≡ 8 → o.code ≡ 4
    → refusal_of sh x o ≡ 0 → KevFacts sh (own sh x) o
unfolding pattern rows use_word condition kev_test
kev_facts sh x o caps len e h =
    let a = one_operand sh x 4 9 refl refl refl refl (omega (arith, caps.edges)) refl o len e h in
    let n = eqb→eq _ _ (true_T (rw a.small at a.holds)) in
    record { k = a.n; is = a.is; used = (a.range.0, a.range.1, a.used); next = n }

-- the links afterwards
abbrev pub kev_list : Shape → List ℕ → ℕ → List ℕ
kev_list sh x k =
    set_vertex_used sh
    (renew sh (edge_out sh x k (own sh x Prev k) (own sh x Next (mate k)) k (mate k)) (own sh x Loop k)
    (own sh x First (own sh x Loop k)) (corner_left (own sh x) k (mate k)) (own sh x Start k))
    (own sh x Start (mate k)) 0

-- the points afterwards
abbrev pub kev_points : Shape → List ℕ → List ℤ → ℕ → List ℤ
kev_points sh x p k = put_point p (own sh x Start (mate k)) (pos 0) (pos 0) (pos 0)

-- the edge that goes, as mev puts it in
abbrev pub spur_edge : Columns → ℕ → NewEdge
spur_edge c k = record {
  loop = c Loop k;
  half = k;
  from = c Start k;
  to = c Start (mate k);
  before = c Prev k;
  after = c Next (mate k);
}

-- the operands of the mev that undoes it
abbrev pub kev_back : Shape → List ℕ → List ℤ → ℕ → Mev
kev_back sh x p k = record {
  loop = own sh x Loop k;
  half = corner_left (own sh x) k (mate k);
  edge = edge_of k;
  vertex = own sh x Start (mate k);
  way = way_of k;
  x = coordinate p (own sh x Start (mate k)) 0;
  y = coordinate p (own sh x Start (mate k)) 1;
  z = coordinate p (own sh x Start (mate k)) 2;
}

module _ {sh : Shape} {x : List ℕ} {p : List ℤ} (g : Marked sh x p) {k : ℕ} (uk : HalfUsed sh (own sh x) k)
    (nk : own sh x Next k ≡ mate k) where
  -- the columns
  abbrev c : Columns
  c = own sh x

  -- the spur
  abbrev sp : Spur sh p (own sh x) k
  sp = spur_of g uk nk

  -- the vertex that goes
  abbrev v : ℕ
  v = own sh x Start (mate k)

  -- k is read as it stands
  kn : leb k most_halves ≡ true
  kn = le-leb k most_halves (omega (arith, uk.1, g.capacities.edges))

  -- what kev does to the links
  pub kev_links_lem : marks_after sh x (kev_of k) ≡ kev_list sh x k
  unfolding marks_after kev_links
  kev_links_lem = rw (kn, prev_b sp, nk)

  -- the vertex that goes
  pub kev_killed : killed_vertex sh x (kev_of k) ≡ own sh x Start (mate k)
  unfolding killed_vertex
  kev_killed = rw kn

  -- to the points
  pub kev_points_lem : points_after sh x p (kev_of k) ≡ kev_points sh x p k
  unfolding points_after killed_vertex
  kev_points_lem = rw kn

  -- the operator that undoes it
  pub kev_inverse_lem : inverse sh x p (kev_of k) ≡ mev_of (kev_back sh x p k)
  unfolding inverse
  kev_inverse_lem = rw kn

  -- it is accepted
  pub kev_accepted : refusal_of sh x (kev_of k) ≡ 0
  unfolding pattern rows use_word condition kev_test
  kev_accepted = one_accepted sh x 4 9 refl refl refl refl (omega (arith, g.capacities.edges)) refl k (uk.0, uk.1)
      uk.2
      (rw kn (eqb_same nk))

  module _ {I : ℕ} (left : Left (own sh x) k I) where
    -- the columns afterwards
    abbrev d : Columns
    d = kev_columns sh (own sh x) k I

    -- the columns are sound
    d_sound : Sound sh (kev_points sh x p k) d
    d_sound = kev_sound sp left
        (points_cleared sh p c d v g.points (far_in sp) g.sound.point (λ w n. upd_off (c VertexUsed) 0 n))

    -- the list once the edge is out
    out_shows : Shows sh (edge_out sh x k (c Prev k) (c Next (mate k)) k (mate k)) (kev_out c k)
    out_shows =
        shows_no_edge (marked_shows g) k (c Prev k) (c Next (mate k)) k (mate k) (in_k sp) (in_b sp) (in_P sp) (in_N sp)
        (in_k sp) (in_b sp)

    -- what names the loop now named it before
    named : (i : ℕ) → kev_out c k Loop i ≡ c Loop k → c Loop i ≡ c Loop k
    named i e = split i k
        (λ z. ap (c Loop) z)
        (λ z. split i (mate k) (λ y. ap (c Loop) y ∙ spur_loop_b sp) (λ y. sym ((columns_out sp left).loop i z y) ∙ e))

    -- the loop's first and isolated vertex
    first_shows : Shows sh
        (renew sh (edge_out sh x k (c Prev k) (c Next (mate k)) k (mate k)) (c Loop k) (c First (c Loop k))
        (corner_left c k (mate k)) (c Start k))
        (with_first (kev_out c k) (c Loop k) (first_of sh (kev_out c k) (c Loop k)) I)
    first_shows = ⊎_elim
        (λ w.
        let z : first_of sh (kev_out c k) (c Loop k) ≡ 0 = label_none (2 * sh.edges) (d Loop) (c Loop k)
        (none_named sp left w.0) in
        rw (eqb_same w.0, w.1, z)
        (shows_isolated out_shows (c Loop k) (c First (c Loop k)) (c Start k) (spur_loop_in sp)))
        (λ w.
        rw (eqb_other w.0, w.1)
        (shows_first {U = HalfUsed sh d} out_shows (c Loop k) (c First (c Loop k)) (c Next (mate k)) (c Start k)
        (spur_loop_in sp) (kev_rules sp left).loops
        (half_stays sp left _ ((used_N sp, Nb sp), w.0)) ((columns_out sp left).loop _ w.0 (Nb sp) ∙ spur_loop_N sp)
        (λ i j e. (j.0, j.1, λ s. omega (arith, (spur_loop_in sp).0, sym e ∙ (free_half sp left i j s).loop)))
        (λ i j e. (first_low_lem g.sound (c Loop k) i (spur_loop_in sp).0 j (named i e)).1))) left

    -- the list shows these columns
    pub kev_shows : Shows sh (kev_list sh x k) d
    kev_shows = shows_put first_shows VertexUsed v 0 (far_in sp).0 (far_in sp).1

    -- the table is marked afterwards
    pub killed_good : Marked sh (kev_list sh x k) (kev_points sh x p k)
    killed_good = marked_after g kev_shows (λ n. refl) (put_length p v (pos 0) (pos 0) (pos 0)) d_sound
