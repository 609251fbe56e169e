-- mekr as an operator: what an accepted one says of the table, that what is asked is enough, and what it does to links
-- and points.
use Rattle.std.specs.Prelude.{◌≡◌, ◌≢◌, Bool, true, not, List, [], ◌∷◌, ℕ, ◌*◌, ◌≤◌, T, eqb, leb, ℤ, length, get_or}
use Rattle.std.proofs.Math.Path.{refl}
use Rattle.std.proofs.Common.{◌∙◌, subst, arith, lit≤, le-leb}
use Rattle.std.proofs.Math.Dec.{eqb→eq, T_not, not_T}
use Rattle.std.proofs.Math.IntN.{pos}
use Rattle.std.proofs.Math.ListN.{replicate}
use Rattle.laws.specs.Bools.{pick, T_true, true_T, eqb_same}
use Rattle.laws.specs.Every.{every_T, T_every}
use Rattle.bounds.specs.Bounds.{most_halves}
use Rattle.script.specs.declared.Operator.{Operator}
use Rattle.codec.specs.Operands.{pattern, rows}
use Rattle.script.specs.Operator.{operand_of}
use Rattle.layout.specs.declared.shape.Shape.{Shape}
use Rattle.layout.specs.Mate.{mate}
use Rattle.euler.specs.Surgery.{half_by, corner}
use Rattle.euler.specs.EdgeOperators.{mekr_test, mekr_links}
use Rattle.euler.specs.Valence.{ends, come_of}
use Rattle.euler.specs.Exec.{limits, use_word, condition, refusal_of, marks_after, points_after}
use Rattle.layout.specs.Fields.{Outer, Face, Isolated, Start, Prev, Columns}
use Rattle.sound_tables.specs.Sound.{In}
use Rattle.sound_tables.specs.Accepted.{by_place, eight, accepted_back, ranges_cons, item_cons, use_old, old_use}
use Rattle.sound_tables.specs.Accepted.{use_new, new_use, use_none, in_range_lem, Number, number, number_or_none}
use Rattle.sound_tables.specs.Accepted.{unused_range, unused_use, in_range_or_none}
use Rattle.sound_tables.specs.Good.{own, Capacities}
use Rattle.sound_tables.specs.CornerTest.{CornerAt, corner_most, test_corner, corner_test, corner_use}
use Rattle.sound_bridges.specs.Relation.{Corner, Bridge}
use Rattle.sound_bridges.specs.MekrColumns.{mekr_list}

-- mekr l h1 l2 h2 e w
abbrev pub mekr_of : ℕ → ℕ → ℕ → ℕ → ℕ → ℕ → Operator
mekr_of l h1 l2 h2 e w =
    record { code = 8; count = 6; args = pos l ∷ pos h1 ∷ pos l2 ∷ pos h2 ∷ pos e ∷ pos w ∷ pos 0 ∷ pos 0 ∷ [] }

-- the corner before half-edge h of loop l, the isolated one where h is 0; the edge leaves by k and comes by b
abbrev pub corner_of : Columns → (l h k b : ℕ) → Corner
corner_of c l h k b = record {
  l = l;
  u = pick (eqb h 0) (c Isolated l) (c Start h);
  P = pick (eqb h 0) b (c Prev h);
  N = pick (eqb h 0) k h;
  k = k;
  b = b;
}

-- the bridge k from one corner to another
abbrev pub bridge_of : ℕ → Corner → Corner → Bridge
bridge_of k s s2 = record {
  k = k;
  l = s.l;
  l2 = s2.l;
  u1 = s.u;
  P1 = s.P;
  N1 = s.N;
  u2 = s2.u;
  P2 = s2.P;
  N2 = s2.N;
}

-- the bridge that mekr makes of half-edge k
abbrev pub mekr_bridge : Columns → (k l h1 l2 h2 : ℕ) → Bridge
mekr_bridge c k l h1 l2 h2 = bridge_of k (corner_of c l h1 k (mate k)) (corner_of c l2 h2 (mate k) k)

-- a small number is read as it stands
pub read : {m : ℕ} → m ≤ most_halves → leb m most_halves ≡ true
read {m} = le-leb m most_halves

-- what is asked of an accepted mekr
pub record MekrFacts (sh : Shape) (c : Columns) (l h1 l2 h2 e w : ℕ) : Type 0 where
  pub loop_in : In sh.loops l
  pub loop_used : c Face l ≢ 0
  pub at_1 : CornerAt sh c l h1
  pub ring_in : In sh.loops l2
  pub ring_used : c Face l2 ≢ 0
  pub at_2 : CornerAt sh c l2 h2
  pub edge_in_range : In sh.edges e
  pub edge_free : c Start (2 * e) ≡ 0
  pub way : w ≤ 1
  pub two : l ≢ l2
  pub one_face : c Face l ≡ c Face l2
  pub ring : c Outer (c Face l2) ≢ l2

-- ---- the condition

module _ (sh : Shape) (x : List ℕ) where
  -- the tests of mekr
  abbrev tests : ℕ → ℕ → ℕ → ℕ → List Bool
  tests l h1 l2 h2 = not (eqb l l2) ∷ eqb (own sh x Face l) (own sh x Face l2) ∷ not
      (eqb (own sh x Outer (own sh x Face l2)) l2) ∷ corner sh x l h1 ∷ corner sh x l2 h2 ∷ []

  -- what they say
  pub record Tested (l h1 l2 h2 : ℕ) : Type 0 where
    pub two : l ≢ l2
    pub one_face : own sh x Face l ≡ own sh x Face l2
    pub ring : own sh x Outer (own sh x Face l2) ≢ l2
    pub at_1 : T (corner sh x l h1)
    pub at_2 : T (corner sh x l2 h2)

  -- from the test
  mekr_test_lem : (l h1 l2 h2 : ℕ) → mekr_test sh x l h1 l2 h2 ≡ true → Tested l h1 l2 h2
  unfolding mekr_test
  mekr_test_lem l h1 l2 h2 t =
      let s = every_T (tests l h1 l2 h2) (true_T t) in
      record {
        two = λ z. T_not (eqb l l2) s.0 (true_T (eqb_same z));
        one_face = eqb→eq _ _ s.1.0;
        ring = λ z. T_not (eqb (own sh x Outer (own sh x Face l2)) l2) s.1.1.0 (true_T (eqb_same z));
        at_1 = s.1.1.1.0;
        at_2 = s.1.1.1.1.0;
      }

  -- and back
  test_mekr : {l h1 l2 h2 e w : ℕ} → MekrFacts sh (own sh x) l h1 l2 h2 e w → mekr_test sh x l h1 l2 h2 ≡ true
  unfolding mekr_test
  test_mekr {l} {h1} {l2} {h2} r =
      let two = not_T (eqb l l2) (λ t. r.two (eqb→eq l l2 t)) in
      let ring = not_T (eqb (own sh x Outer (own sh x Face l2)) l2) (λ t. r.ring (eqb→eq _ _ t)) in
      let at_1 = true_T {b = corner sh x l h1} (corner_test sh x l h1 r.at_1) in
      let at_2 = true_T {b = corner sh x l2 h2} (corner_test sh x l2 h2 r.at_2) in
      T_true (T_every (tests l h1 l2 h2) (two, (true_T (eqb_same r.one_face), (ring, (at_1, (at_2, tt))))))

-- ---- operands

-- an accepted mekr, with its numbers
pub record MekrSaid (sh : Shape) (x : List ℕ) (o : Operator) : Type 0 where
  pub l : ℕ
  pub h1 : ℕ
  pub l2 : ℕ
  pub h2 : ℕ
  pub e : ℕ
  pub w : ℕ
  pub is : o ≡ mekr_of l h1 l2 h2 e w
  pub facts : MekrFacts sh (own sh x) l h1 l2 h2 e w

-- all from the refusal 0
pub mekr_said : (sh : Shape) (x : List ℕ) (o : Operator) → Capacities sh → length o.args ≡ 8 → o.code ≡ 8
    → refusal_of sh x o ≡ 0 → MekrSaid sh x o
unfolding pattern rows use_word condition
mekr_said sh x o caps len e h =
    let v = operand_of o in
    let a = by_place sh x o 8 len refl e h in
    let r = a.range in
    let u = a.used in
    let n0 : Number sh.loops (get_or o.args 0 (pos 0)) =
    number (limits sh) 6 _ refl refl (omega (arith, caps.loops)) (r 0 (lit≤ tt)) in
    let n1 : (get_or o.args 1 (pos 0) ≡ pos (v 1)) × (operand_of o 1 ≤ 2 * sh.edges) =
    number_or_none (limits sh) 10 _ refl (omega (arith, caps.edges)) (r 1 (lit≤ tt)) in
    let n2 : Number sh.loops (get_or o.args 2 (pos 0)) =
    number (limits sh) 6 _ refl refl (omega (arith, caps.loops)) (r 2 (lit≤ tt)) in
    let n3 : (get_or o.args 3 (pos 0) ≡ pos (v 3)) × (operand_of o 3 ≤ 2 * sh.edges) =
    number_or_none (limits sh) 10 _ refl (omega (arith, caps.edges)) (r 3 (lit≤ tt)) in
    let n4 : Number sh.edges (get_or o.args 4 (pos 0)) =
    number (limits sh) 8 _ refl refl (omega (arith, caps.edges)) (r 4 (lit≤ tt)) in
    let n5 : (get_or o.args 5 (pos 0) ≡ pos (v 5)) × (operand_of o 5 ≤ 1) =
    number_or_none (limits sh) 12 _ refl (lit≤ tt) (r 5 (lit≤ tt)) in
    let s1 : v 1 ≤ most_halves = omega (arith, n1.1, caps.edges) in
    let s3 : v 3 ≤ most_halves = omega (arith, n3.1, caps.edges) in
    let is : o ≡ mekr_of (v 0) (v 1) (v 2) (v 3) (v 4) (v 5) = λ t. record {
      code = e t;
      count = a.count t;
      args = (eight o.args len
          ∙ (λ i. n0.is i ∷ n1.0 i ∷ n2.is i ∷ n3.0 i ∷ n4.is i ∷ n5.0 i ∷ a.rest 6 (lit≤ tt) refl i ∷ a.rest 7
          (lit≤ tt) refl i ∷ [])) t;
    } in
    let t = mekr_test_lem sh x (v 0) (v 1) (v 2) (v 3)
    (rw (read n0.small, read s1, read n2.small, read s3) at (subst (λ q. condition sh x q ≡ true) is a.holds))
    in
    record {
      l = v 0;
      h1 = v 1;
      l2 = v 2;
      h2 = v 3;
      e = v 4;
      w = v 5;
      is = is;
      facts = record {
        loop_in = n0.range;
        loop_used = use_old sh x 6 (v 0) (omega (arith, n0.range)) refl (u 0 (lit≤ tt) n0.small);
        at_1 = test_corner sh x (v 0) (v 1) n1.1 (u 1 (lit≤ tt) s1) t.at_1;
        ring_in = n2.range;
        ring_used = use_old sh x 6 (v 2) (omega (arith, n2.range)) refl (u 2 (lit≤ tt) n2.small);
        at_2 = test_corner sh x (v 2) (v 3) n3.1 (u 3 (lit≤ tt) s3) t.at_2;
        edge_in_range = n4.range;
        edge_free = use_new sh x 8 (v 4) (omega (arith, n4.range)) refl (u 4 (lit≤ tt) n4.small);
        way = n5.1;
        two = t.two;
        one_face = t.one_face;
        ring = t.ring;
      };
    }

module _ (sh : Shape) (x : List ℕ) {l h1 l2 h2 e w : ℕ} (caps : Capacities sh)
    (r : MekrFacts sh (own sh x) l h1 l2 h2 e w) where
  -- all numbers are small enough to be read as they stand
  pub small : (l ≤ most_halves) × (h1 ≤ most_halves) × (l2 ≤ most_halves) × (h2 ≤ most_halves) × (e ≤ most_halves)
      × (w ≤ most_halves)
  small =
      let m1 : h1 ≤ 2 * sh.edges = corner_most sh (own sh x) l h1 r.at_1 in
      let m2 : h2 ≤ 2 * sh.edges = corner_most sh (own sh x) l2 h2 r.at_2 in (
        omega (arith, r.loop_in.1, caps.loops),
        omega (arith, m1, caps.edges),
        omega (arith, r.ring_in.1, caps.loops),
        omega (arith, m2, caps.edges),
        omega (arith, r.edge_in_range.1, caps.edges),
        omega (arith, r.way),
      )

  -- it is accepted
  pub mekr_accepted : refusal_of sh x (mekr_of l h1 l2 h2 e w) ≡ 0
  unfolding pattern rows use_word condition
  mekr_accepted =
      let o = mekr_of l h1 l2 h2 e w in
      let lim = limits sh in
      accepted_back sh x o (record {
        code = refl;
        count = refl;
        range = ranges_cons lim 6 _ (pos l) (pos h1 ∷ pos l2 ∷ pos h2 ∷ pos e ∷ pos w ∷ replicate 2 (pos 0))
            (in_range_lem lim 6 l refl refl r.loop_in)
            (ranges_cons lim 10 _ (pos h1) (pos l2 ∷ pos h2 ∷ pos e ∷ pos w ∷ replicate 2 (pos 0))
            (in_range_or_none lim 10 h1 refl refl (corner_most sh (own sh x) l h1 r.at_1))
            (ranges_cons lim 6 _ (pos l2) (pos h2 ∷ pos e ∷ pos w ∷ replicate 2 (pos 0))
            (in_range_lem lim 6 l2 refl refl r.ring_in)
            (ranges_cons lim 10 _ (pos h2) (pos e ∷ pos w ∷ replicate 2 (pos 0))
            (in_range_or_none lim 10 h2 refl refl (corner_most sh (own sh x) l2 h2 r.at_2))
            (ranges_cons lim 8 _ (pos e) (pos w ∷ replicate 2 (pos 0)) (in_range_lem lim 8 e refl refl r.edge_in_range)
            (ranges_cons lim 12 _ (pos w) (replicate 2 (pos 0)) (in_range_or_none lim 12 w refl refl r.way)
            (unused_range lim 2))))));
        used = item_cons sh x o 6 _ 0 small.0 (old_use sh x 6 l (omega (arith, r.loop_in.0)) refl r.loop_used)
            (item_cons sh x o 10 _ 1 small.1 (corner_use sh x l h1 r.at_1)
            (item_cons sh x o 6 _ 2 small.2 (old_use sh x 6 l2 (omega (arith, r.ring_in.0)) refl r.ring_used)
            (item_cons sh x o 10 _ 3 small.3 (corner_use sh x l2 h2 r.at_2)
            (item_cons sh x o 8 _ 4 small.4 (new_use sh x 8 e (omega (arith, r.edge_in_range.0)) refl r.edge_free)
            (item_cons sh x o 12 _ 5 small.5 (use_none sh x 12 w refl refl) (unused_use sh x o 2 6))))));
        holds = rw (read small.0, read small.1, read small.2, read small.3) (test_mekr sh x r);
      })

  -- what it does to the list; k is the half that the way names
  pub mekr_links_lem : (k : ℕ) → half_by e w ≡ k → marks_after sh x (mekr_of l h1 l2 h2 e w)
      ≡ mekr_list sh x (mekr_bridge (own sh x) k l h1 l2 h2)
  unfolding marks_after mekr_links
  mekr_links_lem k q =
      rw (read small.0, read small.1, read small.2, read small.3, read small.4, read small.5, q)

  -- where half-edges come
  pub mekr_come : (k : ℕ) → half_by e w ≡ k → (y : List ℕ) → come_of sh y (mekr_of l h1 l2 h2 e w) ≡ ends sh y k
  mekr_come k q y = rw (read small.4, read small.5, q)

  -- to the points
  pub mekr_points : (p : List ℤ) → points_after sh x p (mekr_of l h1 l2 h2 e w) ≡ p
  unfolding points_after
  mekr_points p = refl
