-- semv and jekv as operators: their operands, what it says that they are accepted, and what they do to links and
-- points.
use Rattle.std.specs.Prelude.{◌≡◌, ◌≢◌, true, not, List, [], ◌∷◌, ℕ, ◌*◌, ◌≤◌, ◌<◌, T, eqb, leb, ℤ, length, get_or}
use Rattle.std.proofs.Math.Path.{refl}
use Rattle.std.proofs.Common.{ap, ◌∙◌, arith, eqb→eq, lit≤, T_not}
use Rattle.std.proofs.Math.Logic.{⊎_elim}
use Rattle.std.proofs.Math.Dec.{not_T}
use Rattle.std.proofs.Math.IntN.{pos}
use borrow.Author.Tests.{le-leb}
use Rattle.laws.specs.Bools.{true_T, T_true, and_T, T_and, eqb_same}
use Rattle.bounds.specs.Bounds.{most_halves}
use Rattle.script.specs.declared.Operator.{Operator}
use Rattle.codec.specs.Operands.{pattern, rows}
use Rattle.script.specs.Operator.{operand_of}
use Rattle.layout.specs.declared.shape.Shape.{Shape}
use Rattle.layout.specs.Mate.{mate, edge_of}
use Rattle.layout.specs.Points.{point_width, coordinate, range_test}
use Rattle.euler.specs.Surgery.{half_by, way_of, put_point}
use Rattle.euler.specs.EdgeOperators.{semv_links, jekv_test, jekv_links}
use Rattle.euler.specs.Exec.{limits, use_word, condition, refusal_of, marks_after, killed_vertex, points_after, inverse}
use Rattle.layout.specs.Fields.{Start, Next, VertexUsed, Columns}
use Rattle.sound_tables.specs.Sound.{In, HalfUsed}
use Rattle.sound_tables.specs.PointLists.{three, all_three}
use Rattle.sound_tables.specs.Accepted.{by_place, eight, accepted_back, ranges_cons, uses_cons, item_cons, use_old}
use Rattle.sound_tables.specs.Accepted.{old_use, use_new, new_use, use_none, in_range_lem, Number, number}
use Rattle.sound_tables.specs.Accepted.{number_or_none}
use Rattle.sound_tables.specs.Accepted.{coordinate_range, unused_range, unused_use, in_range_or_none, three_range}
use Rattle.sound_tables.specs.Accepted.{three_use}
use Rattle.sound_tables.specs.Good.{own, Capacities}
use Rattle.sound_tables.specs.HalfNumbers.{mate_edge, same_edge}
use Rattle.sound_tables.specs.OneOperand.{one_of, one_operand, one_accepted}
use Rattle.sound_splits.specs.JekvColumns.{Joint}

-- ---- semv

-- semv half edge vertex way x y z: the new vertex at (x, y, z) divides the half-edge
pub record Semv : Type 0 where
  pub half : ℕ
  pub edge : ℕ
  pub vertex : ℕ
  pub way : ℕ
  pub x : ℤ
  pub y : ℤ
  pub z : ℤ

-- the operator with these operands
abbrev pub semv_of : Semv → Operator
semv_of m = record {
  code = 11;
  count = 7;
  args = pos m.half ∷ pos m.edge ∷ pos m.vertex ∷ pos m.way ∷ m.x ∷ m.y ∷ m.z ∷ pos 0 ∷ [];
}

-- jekv k, which undoes it
abbrev pub jekv_of : ℕ → Operator
jekv_of = one_of 12

-- the half of the new edge that comes after the half-edge
abbrev pub new_half : Semv → ℕ
new_half m = half_by m.edge m.way

-- they fit the columns: the half-edge is in use, the edge and the vertex are free
pub record SemvFits (sh : Shape) (c : Columns) (m : Semv) : Type 0 where
  pub half : HalfUsed sh c m.half
  pub edge_in_range : In sh.edges m.edge
  pub edge_free : c Start (2 * m.edge) ≡ 0
  pub vertex_in : In sh.vertices m.vertex
  pub vertex_free : c VertexUsed m.vertex ≡ 0
  pub way : m.way ≤ 1
  pub range : (i : ℕ) → i < point_width → T (range_test (three m.x m.y m.z i))

-- what an accepted semv says
pub record SemvFacts (sh : Shape) (c : Columns) (o : Operator) : Type 0 where
  pub operands : Semv
  pub is : o ≡ semv_of operands
  pub fits : SemvFits sh c operands

-- all from the refusal 0
pub semv_facts : (sh : Shape) (x : List ℕ) (o : Operator) → Capacities sh → length o.args ≡ 8 → o.code ≡ 11
    → refusal_of sh x o ≡ 0 → SemvFacts sh (own sh x) o
unfolding pattern rows use_word
semv_facts sh x o caps len e h =
    let a = by_place sh x o 11 len refl e h in
    let r = a.range in
    let u = a.used in
    let arg : ℕ → ℤ = λ i. get_or o.args i (pos 0) in
    let n0 : Number (2 * sh.edges) (arg 0) = number (limits sh) 9 _ refl refl (omega (arith, caps.edges))
    (r 0 (lit≤ tt)) in
    let n1 : Number sh.edges (arg 1) = number (limits sh) 8 _ refl refl (omega (arith, caps.edges))
    (r 1 (lit≤ tt)) in
    let n2 : Number sh.vertices (arg 2) =
    number (limits sh) 11 _ refl refl (omega (arith, caps.vertices)) (r 2 (lit≤ tt)) in
    let n3 : (arg 3 ≡ pos (operand_of o 3)) × (operand_of o 3 ≤ 1) =
    number_or_none (limits sh) 12 _ refl (lit≤ tt) (r 3 (lit≤ tt)) in
    let k_used = use_old sh x 9 (operand_of o 0) (omega (arith, n0.range)) refl (u 0 (lit≤ tt) n0.small) in
    record {
      operands = record {
        half = operand_of o 0;
        edge = operand_of o 1;
        vertex = operand_of o 2;
        way = operand_of o 3;
        x = arg 4;
        y = arg 5;
        z = arg 6;
      };
      is = λ t. record {
        code = e t;
        count = a.count t;
        args = (eight o.args len
            ∙ (λ i. n0.is i ∷ n1.is i ∷ n2.is i ∷ n3.0 i ∷ arg 4 ∷ arg 5 ∷ arg 6 ∷ a.rest 7 (lit≤ tt) refl i
            ∷ [])) t;
      };
      fits = record {
        half = (n0.range.0, n0.range.1, k_used);
        edge_in_range = n1.range;
        edge_free = use_new sh x 8 (operand_of o 1) (omega (arith, n1.range)) refl (u 1 (lit≤ tt) n1.small);
        vertex_in = n2.range;
        vertex_free = use_new sh x 11 (operand_of o 2) (omega (arith, n2.range)) refl (u 2 (lit≤ tt) n2.small);
        way = n3.1;
        range = all_three (λ q. T (range_test q)) _ _ _ (coordinate_range (limits sh) (arg 4) (r 4 (lit≤ tt)))
            (coordinate_range (limits sh) (arg 5) (r 5 (lit≤ tt)))
            (coordinate_range (limits sh) (arg 6) (r 6 (lit≤ tt)));
      };
    }

module _ (sh : Shape) (x : List ℕ) (caps : Capacities sh) {m : Semv} (r : SemvFits sh (own sh x) m) where
  -- its numbers are read as they stand: the half-edge's
  kn : m.half ≤ most_halves
  kn = omega (arith, r.half.1, caps.edges)

  -- the edge's
  en : m.edge ≤ most_halves
  en = omega (arith, r.edge_in_range.1, caps.edges)

  -- the vertex's
  vn : m.vertex ≤ most_halves
  vn = omega (arith, r.vertex_in.1, caps.vertices)

  -- and the way
  wn : m.way ≤ most_halves
  wn = omega (arith, r.way)

  -- the links afterwards
  pub semv_links_lem : marks_after sh x (semv_of m) ≡ semv_links sh x m.half (new_half m) m.vertex
  unfolding marks_after
  semv_links_lem =
      let k = le-leb m.half most_halves kn in
      let v = le-leb m.vertex most_halves vn in
      rw (k, le-leb m.edge most_halves en, v, le-leb m.way most_halves wn)

  -- the vertex gets its point
  pub semv_points : (p : List ℤ) → points_after sh x p (semv_of m) ≡ put_point p m.vertex m.x m.y m.z
  unfolding points_after
  semv_points p = rw (le-leb m.vertex most_halves vn)

  -- it is undone by jekv
  pub semv_inverse_lem : (p : List ℤ) → inverse sh x p (semv_of m) ≡ jekv_of m.half
  unfolding inverse
  semv_inverse_lem p = rw (le-leb m.half most_halves kn)

  -- it is accepted
  pub semv_accepted : refusal_of sh x (semv_of m) ≡ 0
  unfolding pattern rows use_word condition
  semv_accepted = accepted_back sh x (semv_of m) (record {
    code = refl;
    count = refl;
    range =
        let lim = limits sh in
        ranges_cons lim 9 _ _ (pos m.edge ∷ pos m.vertex ∷ pos m.way ∷ m.x ∷ m.y ∷ m.z ∷ pos 0 ∷ [])
        (in_range_lem lim 9 m.half refl refl (r.half.0, r.half.1))
        (ranges_cons lim 8 _ _ (pos m.vertex ∷ pos m.way ∷ m.x ∷ m.y ∷ m.z ∷ pos 0 ∷ [])
        (in_range_lem lim 8 m.edge refl refl r.edge_in_range)
        (ranges_cons lim 11 _ _ (pos m.way ∷ m.x ∷ m.y ∷ m.z ∷ pos 0 ∷ [])
        (in_range_lem lim 11 m.vertex refl refl r.vertex_in)
        (ranges_cons lim 12 _ _ (m.x ∷ m.y ∷ m.z ∷ pos 0 ∷ []) (in_range_or_none lim 12 m.way refl refl r.way)
        (three_range lim _ (pos 0 ∷ []) m.x m.y m.z (r.range 0 (lit≤ tt)) (r.range 1 (lit≤ tt))
        (r.range 2 (lit≤ tt)) (unused_range lim 1)))));
    used =
        let o = semv_of m in
        item_cons sh x o 9 _ 0 kn (old_use sh x 9 m.half (omega (arith, r.half.0)) refl r.half.2)
        (item_cons sh x o 8 _ 1 en (new_use sh x 8 m.edge (omega (arith, r.edge_in_range.0)) refl r.edge_free)
        (item_cons sh x o 11 _ 2 vn (new_use sh x 11 m.vertex (omega (arith, r.vertex_in.0)) refl r.vertex_free)
        (uses_cons sh x o 12 _ 3 (use_none sh x 12 _ refl refl)
        (three_use sh x o _ 4 (unused_use sh x o 1 7)))));
    holds = refl;
  })

-- ---- jekv

-- what an accepted jekv says
pub record JekvFacts (sh : Shape) (x : List ℕ) (o : Operator) : Type 0 where
  pub k : ℕ
  pub is : o ≡ jekv_of k
  pub half : HalfUsed sh (own sh x) k
  pub test : jekv_test sh x k ≡ true

-- all from the refusal 0
pub jekv_facts : (sh : Shape) (x : List ℕ) (o : Operator) → Capacities sh → length o.args ≡ 8 → o.code ≡ 12
    → refusal_of sh x o ≡ 0 → JekvFacts sh x o
unfolding pattern rows use_word condition
jekv_facts sh x o caps len e h =
    let a = one_operand sh x 12 9 refl refl refl refl (omega (arith, caps.edges)) refl o len e h in
    record { k = a.n; is = a.is; half = (a.range.0, a.range.1, a.used); test = rw a.small at a.holds }

-- its test finds a joint
pub tested_joint : (sh : Shape) (x : List ℕ) (k : ℕ) → HalfUsed sh (own sh x) k → jekv_test sh x k ≡ true
    → Joint sh (own sh x) k (own sh x Next k)
unfolding jekv_test
tested_joint sh x k u t =
    let n = own sh x Next k in
    let s = and_T (not (eqb (edge_of n) (edge_of k))) (eqb (own sh x Next (mate n)) (mate k)) (true_T t) in
    let d : edge_of n ≢ edge_of k = λ z. T_not (eqb (edge_of n) (edge_of k)) s.0 (true_T (eqb_same z)) in
    record {
      k_used = u;
      next_k = refl;
      n≢k = λ z. d (ap edge_of z);
      n≢m = λ z. d (ap edge_of z ∙ mate_edge k u.0);
      next_b = eqb→eq _ _ s.1;
    }

-- the operands of the semv that undoes it
abbrev pub jekv_back : Shape → List ℕ → List ℤ → ℕ → ℕ → Semv
jekv_back sh x p k n = record {
  half = k;
  edge = edge_of n;
  vertex = own sh x Start n;
  way = way_of n;
  x = coordinate p (own sh x Start n) 0;
  y = coordinate p (own sh x Start n) 1;
  z = coordinate p (own sh x Start n) 2;
}

module _ (sh : Shape) (x : List ℕ) (k n : ℕ) (caps : Capacities sh) (o : Joint sh (own sh x) k n) (n1 : 1 ≤ n) where
  -- k is read as it stands
  k_small : leb k most_halves ≡ true
  k_small = le-leb k most_halves (omega (arith, o.k_used.1, caps.edges))

  -- the test passes
  joint_tested : jekv_test sh x k ≡ true
  unfolding jekv_test
  joint_tested = rw o.next_k (T_true (T_and (not (eqb (edge_of n) (edge_of k))) (eqb (own sh x Next (mate n)) (mate k))
      (not_T (eqb (edge_of n) (edge_of k))
      (λ t. ⊎_elim o.n≢k o.n≢m (same_edge n k n1 o.k_used.0 (eqb→eq _ _ t))))
      (true_T (eqb_same o.next_b))))

  -- what it does
  pub jekv_links_lem : marks_after sh x (jekv_of k) ≡ jekv_links sh x k n
  unfolding marks_after
  jekv_links_lem = rw (k_small, o.next_k)

  -- it kills n's start
  pub jekv_killed : killed_vertex sh x (jekv_of k) ≡ own sh x Start n
  unfolding killed_vertex
  jekv_killed = rw (k_small, o.next_k)

  -- the point of n's start is cleared
  pub jekv_points : (p : List ℤ)
      → points_after sh x p (jekv_of k) ≡ put_point p (own sh x Start n) (pos 0) (pos 0) (pos 0)
  unfolding points_after killed_vertex
  jekv_points p = rw (k_small, o.next_k)

  -- it is undone by semv
  pub jekv_inverse : (p : List ℤ) → inverse sh x p (jekv_of k) ≡ semv_of (jekv_back sh x p k n)
  unfolding inverse
  jekv_inverse p = rw (k_small, o.next_k)

  -- and accepted
  pub jekv_accepted : refusal_of sh x (jekv_of k) ≡ 0
  unfolding pattern rows use_word condition
  jekv_accepted = one_accepted sh x 12 9 refl refl refl refl (omega (arith, caps.edges)) refl k
      (o.k_used.0, o.k_used.1) o.k_used.2 (rw k_small joint_tested)
