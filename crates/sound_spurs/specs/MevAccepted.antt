-- mev as an operator: its operands, what it says that they are accepted, what it does to links and points, and that a
-- marked table stays marked.
use Rattle.std.specs.Prelude.{◌≡◌, ◌≢◌, true, ℕ, ◌*◌, ◌≤◌, ◌<◌, T, eqb, ℤ, length, get_or}
use Rattle.std.proofs.Math.Path.{refl}
use Rattle.std.proofs.Common.{sym, ap, ◌∙◌, subst, inl, inr, ⊎_elim, arith, lit≤}
use mathlib.Core.List.{List, [], ◌∷◌}
use Rattle.std.proofs.Math.IntN.{pos}
use borrow.Author.Tests.{le-leb}
use Rattle.laws.specs.Bools.{pick, true_T, eqb_same, eqb_other}
use Rattle.laws.specs.Update.{upd_same, upd_off}
use Rattle.bounds.specs.Bounds.{most_halves}
use Rattle.script.specs.declared.Operator.{Operator}
use Rattle.codec.specs.Operands.{pattern, rows}
use Rattle.script.specs.Operator.{operand_of}
use Rattle.layout.specs.declared.shape.Shape.{Shape}
use Rattle.layout.specs.Layout.{set_vertex_used}
use Rattle.layout.specs.Mate.{mate}
use Rattle.layout.specs.MateLaws.{mate_range}
use Rattle.layout.specs.Points.{point_width, range_test}
use Rattle.euler.specs.Surgery.{corner, half_by, put_point, edge_in, lower, renew}
use Rattle.euler.specs.EdgeOperators.{mev_links}
use Rattle.euler.specs.Exec.{limits, use_word, condition, refusal_of, marks_after, points_after, inverse}
use Rattle.layout.specs.Fields.{Face, First, Isolated, Start, Loop, Prev, VertexUsed, Columns}
use Rattle.sound_tables.specs.EdgeIn.{prev_in, next_prev}
use Rattle.sound_tables.specs.Cells.{Shows, shows_put}
use Rattle.sound_tables.specs.Sound.{In, HalfUsed, Sound}
use Rattle.sound_tables.specs.Names.{not_isolated, lone_used, free_halves}
use Rattle.sound_tables.specs.PointLists.{three, put_length, all_three, points_new}
use Rattle.sound_tables.specs.Accepted.{by_place, eight, accepted_back, ranges_cons, uses_cons, item_cons, use_old}
use Rattle.sound_tables.specs.Accepted.{old_use, use_new, new_use, use_none, in_range_lem, Number, number}
use Rattle.sound_tables.specs.Accepted.{number_or_none}
use Rattle.sound_tables.specs.Accepted.{coordinate_range, unused_range, unused_use, in_range_or_none, three_range}
use Rattle.sound_tables.specs.Accepted.{three_use}
use Rattle.sound_tables.specs.OneOperand.{one_of}
use Rattle.sound_tables.specs.Good.{own, Capacities, Marked, marked_shows, marked_after}
use Rattle.sound_tables.specs.CornerTest.{CornerAt, corner_most, test_corner, corner_test, corner_use}
use Rattle.sound_tables.specs.FirstLow.{lower_new, first_low_lem}
use Rattle.sound_tables.specs.Shown.{shows_edge, shows_first}
use Rattle.sound_spurs.specs.MevSound.{NewEdge, mev_columns, AtCorner, MevPlace, MevRules⁺, loop_k, loop_old}
use Rattle.sound_spurs.specs.MevSound.{new_k, mev_sound}
use Rattle.sound_spurs.specs.MevRules.{beside_edge, lone_edge, mev_at_half, mev_at_isolated}

-- ---- operands

-- mev loop half edge vertex way x y z: at corner (loop, half) an edge to the new vertex at (x, y, z)
pub record Mev : Type 0 where
  pub loop : ℕ
  pub half : ℕ
  pub edge : ℕ
  pub vertex : ℕ
  pub way : ℕ
  pub x : ℤ
  pub y : ℤ
  pub z : ℤ

-- the operator with these
abbrev pub mev_of : Mev → Operator
mev_of m = record {
  code = 3;
  count = 8;
  args = pos m.loop ∷ pos m.half ∷ pos m.edge ∷ pos m.vertex ∷ pos m.way ∷ m.x ∷ m.y ∷ m.z ∷ [];
}

-- the half of the edge that leaves the corner
abbrev pub new_half : Mev → ℕ
new_half m = half_by m.edge m.way

-- they fit the columns: the loop is in use, the edge and the vertex are free, and the corner is one
pub record MevFits (sh : Shape) (c : Columns) (m : Mev) : Type 0 where
  pub loop_in : In sh.loops m.loop
  pub loop_used : c Face m.loop ≢ 0
  pub edge_in_range : In sh.edges m.edge
  pub edge_free : c Start (2 * m.edge) ≡ 0
  pub vertex_in : In sh.vertices m.vertex
  pub vertex_free : c VertexUsed m.vertex ≡ 0
  pub corner : CornerAt sh c m.loop m.half
  pub way : m.way ≤ 1
  pub range : (i : ℕ) → i < point_width → T (range_test (three m.x m.y m.z i))

-- what an accepted mev says
pub record MevFacts (sh : Shape) (c : Columns) (o : Operator) : Type 0 where
  pub operands : Mev
  pub is : o ≡ mev_of operands
  pub fits : MevFits sh c operands

-- the operands by place
abbrev operands_of : Operator → Mev
operands_of o = record {
  loop = operand_of o 0;
  half = operand_of o 1;
  edge = operand_of o 2;
  vertex = operand_of o 3;
  way = operand_of o 4;
  x = get_or o.args 5 (pos 0);
  y = get_or o.args 6 (pos 0);
  z = get_or o.args 7 (pos 0);
}

-- all from the refusal 0
pub mev_facts : (sh : Shape) (x : List ℕ) (o : Operator) → Capacities sh → length o.args ≡ 8 → o.code ≡ 3
    → refusal_of sh x o ≡ 0 → MevFacts sh (own sh x) o
unfolding pattern rows use_word condition
mev_facts sh x o caps len e h =
    let a = by_place sh x o 3 len refl e h in
    let r = a.range in
    let u = a.used in
    let arg : ℕ → ℤ = λ i. get_or o.args i (pos 0) in
    let n0 : Number sh.loops (arg 0) = number (limits sh) 6 _ refl refl (omega (arith, caps.loops))
    (r 0 (lit≤ tt)) in
    let n1 : (arg 1 ≡ pos (operand_of o 1)) × (operand_of o 1 ≤ 2 * sh.edges) =
    number_or_none (limits sh) 10 _ refl (omega (arith, caps.edges)) (r 1 (lit≤ tt)) in
    let n2 : Number sh.edges (arg 2) = number (limits sh) 8 _ refl refl (omega (arith, caps.edges))
    (r 2 (lit≤ tt)) in
    let n3 : Number sh.vertices (arg 3) =
    number (limits sh) 11 _ refl refl (omega (arith, caps.vertices)) (r 3 (lit≤ tt)) in
    let n4 : (arg 4 ≡ pos (operand_of o 4)) × (operand_of o 4 ≤ 1) =
    number_or_none (limits sh) 12 _ refl (lit≤ tt) (r 4 (lit≤ tt)) in
    let s1 : operand_of o 1 ≤ most_halves = omega (arith, n1.1, caps.edges) in
    let is : o ≡ mev_of (operands_of o) = λ t. record {
      code = e t;
      count = a.count t;
      args = (eight o.args len
          ∙ (λ i. n0.is i ∷ n1.0 i ∷ n2.is i ∷ n3.is i ∷ n4.0 i ∷ arg 5 ∷ arg 6 ∷ arg 7 ∷ [])) t;
    } in
    record {
      operands = operands_of o;
      is = is;
      fits = record {
        loop_in = n0.range;
        loop_used = use_old sh x 6 (operand_of o 0) (omega (arith, n0.range)) refl (u 0 (lit≤ tt) n0.small);
        edge_in_range = n2.range;
        edge_free = use_new sh x 8 (operand_of o 2) (omega (arith, n2.range)) refl (u 2 (lit≤ tt) n2.small);
        vertex_in = n3.range;
        vertex_free = use_new sh x 11 (operand_of o 3) (omega (arith, n3.range)) refl (u 3 (lit≤ tt) n3.small);
        corner = test_corner sh x (operand_of o 0) (operand_of o 1) n1.1 (u 1 (lit≤ tt) s1)
            (true_T (rw (le-leb (operand_of o 0) most_halves n0.small, le-leb (operand_of o 1) most_halves s1)
            at (subst (λ q. condition sh x q ≡ true) is a.holds)));
        way = n4.1;
        range = all_three (λ q. T (range_test q)) _ _ _ (coordinate_range (limits sh) (arg 5) (r 5 (lit≤ tt)))
            (coordinate_range (limits sh) (arg 6) (r 6 (lit≤ tt)))
            (coordinate_range (limits sh) (arg 7) (r 7 (lit≤ tt)));
      };
    }

-- ---- what mev does

-- the edge that goes in: at an isolated corner its halves follow each other
abbrev pub new_edge : Columns → Mev → NewEdge
new_edge c m = record {
  loop = m.loop;
  half = new_half m;
  from = pick (eqb m.half 0) (c Isolated m.loop) (c Start m.half);
  to = m.vertex;
  before = pick (eqb m.half 0) (mate (new_half m)) (c Prev m.half);
  after = pick (eqb m.half 0) (new_half m) m.half;
}

-- the links with an edge in
abbrev pub mev_list : Shape → List ℕ → NewEdge → List ℕ
mev_list sh x E =
    set_vertex_used sh
    (renew sh
    (edge_in sh x E.half E.from E.loop (mate E.half) E.before E.to E.loop E.after E.half)
    E.loop (lower (own sh x First E.loop) (lower E.half (mate E.half))) E.half 0)
    E.to 1

-- the points afterwards
abbrev pub mev_points : List ℤ → Mev → List ℤ
mev_points p m = put_point p m.vertex m.x m.y m.z

module _ (sh : Shape) (x : List ℕ) (caps : Capacities sh) {m : Mev} (r : MevFits sh (own sh x) m) where
  -- its numbers are read as they stand: the loop's
  ln : m.loop ≤ most_halves
  ln = omega (arith, r.loop_in.1, caps.loops)

  -- the half-edge's
  hn : m.half ≤ most_halves
  hn = let h : m.half ≤ 2 * sh.edges = corner_most sh (own sh x) m.loop m.half r.corner in
      omega (arith, h, caps.edges)

  -- the edge's
  en : m.edge ≤ most_halves
  en = omega (arith, r.edge_in_range.1, caps.edges)

  -- the vertex's
  vn : m.vertex ≤ most_halves
  vn = omega (arith, r.vertex_in.1, caps.vertices)

  -- and the way
  wn : m.way ≤ most_halves
  wn = omega (arith, r.way)

  -- the links afterwards
  pub mev_links_lem : marks_after sh x (mev_of m) ≡ mev_list sh x (new_edge (own sh x) m)
  unfolding marks_after mev_links
  mev_links_lem =
      let l = le-leb m.loop most_halves ln in
      let h = le-leb m.half most_halves hn in
      let v = le-leb m.vertex most_halves vn in
      rw (l, h, le-leb m.edge most_halves en, v, le-leb m.way most_halves wn)

  -- the new vertex gets its point
  pub mev_points_lem : (p : List ℤ) → points_after sh x p (mev_of m) ≡ mev_points p m
  unfolding points_after
  mev_points_lem p = rw (le-leb m.vertex most_halves vn)

  -- it is undone by kev of the new half-edge
  pub mev_inverse_lem : (p : List ℤ) → inverse sh x p (mev_of m) ≡ one_of 4 (new_half m)
  unfolding inverse
  mev_inverse_lem p = rw (le-leb m.edge most_halves en, le-leb m.way most_halves wn)

  -- it is accepted
  pub mev_accepted : refusal_of sh x (mev_of m) ≡ 0
  unfolding pattern rows use_word condition
  mev_accepted = accepted_back sh x (mev_of m) (record {
    code = refl;
    count = refl;
    range =
        let lim = limits sh in
        ranges_cons lim 6 _ _ (pos m.half ∷ pos m.edge ∷ pos m.vertex ∷ pos m.way ∷ m.x ∷ m.y ∷ m.z ∷ [])
        (in_range_lem lim 6 m.loop refl refl r.loop_in)
        (ranges_cons lim 10 _ _ (pos m.edge ∷ pos m.vertex ∷ pos m.way ∷ m.x ∷ m.y ∷ m.z ∷ [])
        (in_range_or_none lim 10 m.half refl refl (corner_most sh (own sh x) m.loop m.half r.corner))
        (ranges_cons lim 8 _ _ (pos m.vertex ∷ pos m.way ∷ m.x ∷ m.y ∷ m.z ∷ [])
        (in_range_lem lim 8 m.edge refl refl r.edge_in_range)
        (ranges_cons lim 11 _ _ (pos m.way ∷ m.x ∷ m.y ∷ m.z ∷ [])
        (in_range_lem lim 11 m.vertex refl refl r.vertex_in)
        (ranges_cons lim 12 _ _ (m.x ∷ m.y ∷ m.z ∷ []) (in_range_or_none lim 12 m.way refl refl r.way)
        (three_range lim _ [] m.x m.y m.z (r.range 0 (lit≤ tt)) (r.range 1 (lit≤ tt)) (r.range 2 (lit≤ tt))
        (unused_range lim 0))))));
    used =
        let o = mev_of m in
        item_cons sh x o 6 _ 0 ln (old_use sh x 6 m.loop (omega (arith, r.loop_in.0)) refl r.loop_used)
        (item_cons sh x o 10 _ 1 hn (corner_use sh x m.loop m.half r.corner)
        (item_cons sh x o 8 _ 2 en (new_use sh x 8 m.edge (omega (arith, r.edge_in_range.0)) refl r.edge_free)
        (item_cons sh x o 11 _ 3 vn (new_use sh x 11 m.vertex (omega (arith, r.vertex_in.0)) refl r.vertex_free)
        (uses_cons sh x o 12 _ 4 (use_none sh x 12 _ refl refl)
        (three_use sh x o _ 5 (unused_use sh x o 0 8))))));
    holds = rw (le-leb m.loop most_halves ln, le-leb m.half most_halves hn)
        (corner_test sh x m.loop m.half r.corner);
  })

-- ---- a marked table stays marked

module _ {sh : Shape} {x : List ℕ} {p : List ℤ} (g : Marked sh x p) {m : Mev} (r : MevFits sh (own sh x) m) where
  -- the columns
  abbrev c : Columns
  c = own sh x

  -- the new half-edge and its mate are free
  free : In (2 * sh.edges) (new_half m) × (own sh x Start (new_half m) ≡ 0) × (own sh x Start (mate (new_half m)) ≡ 0)
  free = free_halves g.sound m.edge m.way r.edge_in_range r.edge_free

  -- a statement about the edge, for each kind of corner
  by_corner : (Q : NewEdge → Type 0)
      → (m.half ≡ 0 → c Isolated m.loop ≢ 0 → Q (lone_edge c m.loop (new_half m) m.vertex))
      → (HalfUsed sh c m.half → c Loop m.half ≡ m.loop
      → Q (beside_edge c m.loop (new_half m) m.vertex m.half))
      → Q (new_edge c m)
  by_corner Q lone beside = ⊎_elim
      (λ q. rw (eqb_same q.0) (lone q.0 q.1))
      (λ q. let n : m.half ≢ 0 = λ z. omega (arith, q.0.0, z) in rw (eqb_other n) (beside q.0 q.1)) r.corner

  -- the place, by the corner's vertex u and the neighbours
  place_at : (u before after : ℕ) → In sh.vertices u → c VertexUsed u ≢ 0
      → AtCorner sh c (record
      { loop = m.loop; half = new_half m; from = u; to = m.vertex; before = before; after = after })
      → MevPlace sh c (record
      { loop = m.loop; half = new_half m; from = u; to = m.vertex; before = before; after = after })
  place_at u before after iu uu corner = record {
    loop_in = r.loop_in;
    loop_used = r.loop_used;
    half_in = free.0;
    mate_in = mate_range (new_half m) sh.edges free.0.0 free.0.1;
    half_free = free.1;
    mate_free = free.2;
    vertex_in = r.vertex_in;
    vertex_free = r.vertex_free;
    corner_in = iu;
    corner_used = uu;
    corner = corner;
  }

  -- the place and the rules afterwards
  placed : MevPlace sh c (new_edge c m) × MevRules⁺ sh c (new_edge c m)
  placed = by_corner (λ E. MevPlace sh c E × MevRules⁺ sh c E)
      (λ q i.
      let w = lone_used g.sound m.loop r.loop_in i in
      let o = place_at (c Isolated m.loop) (mate (new_half m)) (new_half m) w.1 w.2 (inl (refl, refl, refl)) in
      (o, mev_at_isolated g.sound i o))
      (λ hu hl.
      let a = g.sound.rules in
      let s = g.sound.half m.half (hu.0, hu.1) hu.2 in
      let o = place_at (c Start m.half) (c Prev m.half) m.half s.start_in s.start_used
      (inr (prev_in a m.half hu, hu, next_prev a m.half hu, refl, not_isolated g.sound m.half hu hl)) in
      (o, mev_at_half g.sound hu hl o))

  -- the place
  pub mev_place : MevPlace sh (own sh x) (new_edge (own sh x) m)
  mev_place = placed.0

  -- the corner as kev will find it
  pub mev_corner : pick (eqb (new_edge (own sh x) m).after (new_half m)) 0 (new_edge (own sh x) m).after ≡ m.half
  mev_corner = by_corner (λ E. pick (eqb E.after (new_half m)) 0 E.after ≡ m.half)
      (λ q i. rw (eqb_same {m = new_half m} refl) (sym q))
      (λ hu hl. let n : m.half ≢ new_half m = λ z. hu.2 (ap (c Start) z ∙ free.1) in rw (eqb_other n))

  -- the columns afterwards
  abbrev d : Columns
  d = mev_columns sh (own sh x) (new_edge (own sh x) m)

  -- they are sound
  d_sound : Sound sh (mev_points p m) d
  d_sound = mev_sound mev_place g.sound placed.1
      (points_new sh p c d m.vertex g.points r.vertex_in g.sound.point (λ w n. upd_off (c VertexUsed) 1 n)
      m.x m.y m.z (r.range 0 (lit≤ tt)) (r.range 1 (lit≤ tt)) (r.range 2 (lit≤ tt))
      (upd_same (c VertexUsed) m.vertex 1))

  -- the list shows them
  pub mev_shows : Shows sh (mev_list sh x (new_edge (own sh x) m)) (mev_columns sh (own sh x) (new_edge (own sh x) m))
  mev_shows =
      let o = mev_place in
      let E = new_edge (own sh x) m in
      let k = new_half m in
      let b_in : In (2 * sh.edges) E.before = ⊎_elim (λ q. subst (In (2 * sh.edges)) (sym q.0) o.mate_in)
      (λ q. (q.0.0, q.0.1)) o.corner in
      let a_in : In (2 * sh.edges) E.after = ⊎_elim (λ q. subst (In (2 * sh.edges)) (sym q.1) o.half_in)
      (λ q. (q.1.0, q.1.1)) o.corner in
      let s1 = shows_edge (marked_shows g) k E.from m.loop (mate k) E.before m.vertex m.loop E.after k
      o.half_in o.mate_in o.mate_in b_in a_in o.half_in in
      let s2 = shows_first {U = HalfUsed sh d} s1 m.loop (lower (c First m.loop) (lower k (mate k))) k 0
      o.loop_in d_sound.rules.loops (new_k o) (loop_k o)
      (λ i j e. (j.0, j.1, λ s. omega (arith, o.loop_in.0, sym e ∙ (d_sound.half_free i j s).loop)))
      (λ i j e. lower_new (c First m.loop) k (mate k) i o.half_in.0
      (λ y z. first_low_lem g.sound m.loop i o.loop_in.0 j (sym (loop_old o i y z) ∙ e))) in
      shows_put s2 VertexUsed m.vertex 1 o.vertex_in.0 o.vertex_in.1

  -- the table is marked afterwards
  pub mev_good : Marked sh (mev_list sh x (new_edge (own sh x) m)) (mev_points p m)
  mev_good = marked_after g mev_shows (λ n. refl) (put_length p m.vertex m.x m.y m.z) d_sound
