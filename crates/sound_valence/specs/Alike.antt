-- Tables that differ in the words of vertices alone: the same are sound, and the operators that take half-edges away
-- (kev, kef, kemr, jekv) are accepted on the same and have the same inverse, point and vertices to leave.
use Rattle.std.specs.Prelude.{◌≡◌, List, ℕ, ◌*◌, ◌≤◌, eqb, ℤ, length, get_or}
use Rattle.std.proofs.Math.Path.{refl}
use Rattle.std.proofs.Common.{ap, ◌∙◌, arith, lit≤}
use Rattle.laws.specs.Bools.{split}
use Rattle.laws.specs.Sums.{bit, sum_ext}
use Rattle.laws.specs.Columns.{Chained}
use Rattle.bounds.specs.Bounds.{most_halves}
use Rattle.script.specs.declared.Operator.{Operator}
use Rattle.codec.specs.Operands.{old_half, coordinate, pattern, rows}
use Rattle.layout.specs.declared.shape.Shape.{Shape}
use Rattle.layout.specs.Mate.{mate}
use Rattle.layout.specs.MateLaws.{mate_range, mate_even}
use Rattle.layout.specs.Layout.{shape_of, loop_face, loop_of, next_of, side}
use Rattle.layout.specs.Fields.{Capacity, Face, Start, Loop, Next, groups}
use Rattle.euler.specs.Surgery.{item_of}
use Rattle.euler.specs.EdgeOperators.{kev_test, kef_test, kemr_test, jekv_test}
use Rattle.euler.specs.Queries.{loops_in}
use Rattle.euler.specs.Valence.{leave_of}
use Rattle.euler.specs.Exec.{limits, use_word, use_refusal, use_refusals, condition, admit_of, refusal_of}
use Rattle.euler.specs.Exec.{killed_vertex}
use Rattle.euler.specs.Exec.{points_by, points_after, inverse}
use Rattle.sound_tables.specs.Sound.{SameElse, SameUsed, sound_alike}
use Rattle.sound_tables.specs.Good.{own, Marked}
use Rattle.sound_tables.specs.Caps.{loop_cap, next_cap, operand_cap}
use Rattle.sound_tables.specs.Accepted.{limit_of}

-- a table that differs in the words of vertices has the same shape
pub shape_alike : (sh : Shape) (x y : List ℕ) → SameElse sh (own sh x) (own sh y) → sh ≡ shape_of x → sh ≡ shape_of y
shape_alike sh x y e s =
    rw (
      e Capacity refl 1 (lit≤ tt),
      e Capacity refl 2 (lit≤ tt),
      e Capacity refl 3 (lit≤ tt),
      e Capacity refl 4 (lit≤ tt),
      e Capacity refl 5 (lit≤ tt),
    )
    s

-- a table whose words are of the same vertices is sound as well
pub marked_alike : {sh : Shape} {x y : List ℕ} {p : List ℤ} → Marked sh x p → Chained 0 (groups sh) (length y)
    → SameElse sh (own sh x) (own sh y) → SameUsed sh (own sh x) (own sh y) → Marked sh y p
marked_alike {sh} {x} {y} {p} g fit e u = record {
  shape = shape_alike sh x y e g.shape;
  capacities = g.capacities;
  fit = fit;
  points = g.points;
  sound = sound_alike sh p e u g.sound;
}

-- ---- what operator o finds is the same in x and in y

pub record Finds (sh : Shape) (x y : List ℕ) (o : Operator) : Type 0 where
  pub admit : admit_of sh y o ≡ admit_of sh x o
  pub inverted : (p : List ℤ) → inverse sh y p o ≡ inverse sh x p o
  pub killed : killed_vertex sh y o ≡ killed_vertex sh x o
  pub leaves : leave_of sh y o ≡ leave_of sh x o

-- so it is accepted there too
pub accepted_too : {sh : Shape} {x y : List ℕ} {o : Operator} → Finds sh x y o → refusal_of sh x o ≡ 0
    → refusal_of sh y o ≡ 0
unfolding refusal_of
accepted_too f h = rw f.admit h

-- and does the same to the points
pub points_too : {sh : Shape} {x y : List ℕ} {o : Operator} → Finds sh x y o → (p : List ℤ)
    → points_after sh y p o ≡ points_after sh x p o
unfolding points_after
points_too {o = o} f p = ap (λ v. get_or (points_by p o (item_of o) v) o.code p) f.killed

-- in one table
pub finds_same : {sh : Shape} {x y : List ℕ} {o : Operator} → y ≡ x → Finds sh x y o
finds_same {sh} {x} {y} {o} e = record {
  admit = ap (λ t. admit_of sh t o) e;
  inverted = λ p. ap (λ t. inverse sh t p o) e;
  killed = ap (λ t. killed_vertex sh t o) e;
  leaves = ap (λ t. leave_of sh t o) e;
}

-- a mate's number is in range where the half-edge's is
mate_cap : (k c : ℕ) → k ≤ 2 * c → mate k ≤ 2 * c
mate_cap k c h = split k 0 (λ z. rw (z, mate_even 0 (omega arith)) (omega arith))
    (λ d. (mate_range k c (omega arith) h).1)

module _ {sh : Shape} {x : List ℕ} (y : List ℕ) {p : List ℤ} (o : Operator) (g : Marked sh x p)
    (e : SameElse sh (own sh x) (own sh y)) (len : length o.args ≡ 8) (h : refusal_of sh x o ≡ 0) where
  -- the half-edge that is named first
  abbrev k : ℕ
  k = item_of o 0

  -- its number is in range
  pub first_half : (code : ℕ) → o.code ≡ code → length (pattern code).kinds ≡ 8
      → get_or (pattern code).kinds 0 0 ≡ old_half → item_of o 0 ≤ 2 * sh.edges
  first_half code c eight q =
      let small : 2 * sh.edges ≤ most_halves = omega (arith, g.capacities.edges) in
      operand_cap sh x o len h code 0 (2 * sh.edges) c eight (lit≤ tt) (ap (λ n. eqb n coordinate) q)
      (ap (limit_of (limits sh)) q) small

  module _ (ck : item_of o 0 ≤ 2 * sh.edges) where
    -- the mate's number
    cm : mate k ≤ 2 * sh.edges
    cm = mate_cap k sh.edges ck

    -- the face that a half-edge lies in
    side_same : (i : ℕ) → i ≤ 2 * sh.edges → side sh y i ≡ side sh x i
    side_same i c = ap (loop_face sh y) (e Loop refl i c) ∙ e Face refl (loop_of sh x i) (loop_cap _ g.sound i c)

    -- how many loops a face has
    loops_same : (f : ℕ) → loops_in sh y f ≡ loops_in sh x f
    loops_same f = sum_ext sh.loops _ _ (λ l a b. ap (λ n. bit (eqb n f)) (e Face refl l b))

    -- kev
    pub kev_finds : o.code ≡ 4 → Finds sh x y o
    unfolding admit_of use_refusals use_refusal use_word condition kev_test inverse killed_vertex pattern rows
    kev_finds c =
        let sk = e Start refl k ck in
        let sm = e Start refl (mate k) cm in
        let nk = e Next refl k ck in
        let nm = e Next refl (mate k) cm in
        let lk = e Loop refl k ck in
        record {
          admit = rw (c, sk, nk);
          inverted = λ q. rw (c, lk, nm, sm);
          killed = rw (c, sm);
          leaves = rw (c, sk, sm);
        }

    -- kef
    pub kef_finds : o.code ≡ 6 → Finds sh x y o
    unfolding admit_of use_refusals use_refusal use_word condition kef_test inverse killed_vertex pattern rows
    kef_finds c =
        let sk = e Start refl k ck in
        let sm = e Start refl (mate k) cm in
        let nk = e Next refl k ck in
        let nm = e Next refl (mate k) cm in
        let lm = e Loop refl (mate k) cm in
        let lk = e Loop refl k ck in
        let fk = side_same k ck in
        let fm = side_same (mate k) cm in
        record {
          admit = rw (c, sk, fk, fm, loops_same (side sh x k));
          inverted = λ q. rw (c, fk, lm, lk, nk, nm);
          killed = rw c;
          leaves = rw (c, sk, sm);
        }

    -- kemr, with its ring's number
    pub kemr_finds : item_of o 1 ≤ sh.loops → o.code ≡ 7 → Finds sh x y o
    unfolding admit_of use_refusals use_refusal use_word condition kemr_test inverse killed_vertex pattern rows
    kemr_finds cl c =
        let sk = e Start refl k ck in
        let sm = e Start refl (mate k) cm in
        let nk = e Next refl k ck in
        let nm = e Next refl (mate k) cm in
        let lm = e Loop refl (mate k) cm in
        let lk = e Loop refl k ck in
        record {
          admit = rw (c, sk, e Face refl (item_of o 1) cl, lm, lk);
          inverted = λ q. rw (c, lk, nk, nm);
          killed = rw c;
          leaves = rw (c, sk, sm);
        }

    -- jekv
    pub jekv_finds : o.code ≡ 12 → Finds sh x y o
    unfolding admit_of use_refusals use_refusal use_word condition jekv_test inverse killed_vertex pattern rows
    jekv_finds c =
        let sk = e Start refl k ck in
        let nk = e Next refl k ck in
        let cn = next_cap _ g.sound k ck in
        let sn = e Start refl (next_of sh x k) cn in
        let nm = e Next refl (mate (next_of sh x k)) (mate_cap (next_of sh x k) sh.edges cn) in
        record {
          admit = rw (c, sk, nk, nm);
          inverted = λ q. rw (c, nk, sn);
          killed = rw (c, nk, sn);
          leaves = rw (c, nk, sn);
        }
