-- kef at half-edge b of a table: the numbers there, the columns without the edge, and what kef's test says.
use Rattle.std.specs.Prelude.{◌≡◌, refl, ◌≢◌, true, not, ◌&&◌, List, [], ◌∷◌, ◌++◌, ℕ, ◌*◌, eqb, ℤ}
use Rattle.std.proofs.Common.{eqb→eq, T_not}
use Rattle.laws.specs.Bools.{pick, true_T, eqb_same}
use Rattle.laws.specs.Every.{every_T}
use Rattle.laws.specs.Sums.{count_to}
use Rattle.laws.specs.Update.{upd, relabel}
use Rattle.layout.specs.declared.shape.Shape.{Shape}
use Rattle.layout.specs.Mate.{mate}
use Rattle.euler.specs.EdgeOperators.{kef_test}
use Rattle.layout.specs.Fields.{Face, First, Isolated, Start, Loop, Next, Prev, Columns, half_kind}
use Rattle.layout.specs.Writes.{Write, write, cleared, changes}
use Rattle.euler.specs.Surgery.{tied}
use Rattle.sound_tables.specs.Sound.{In, HalfUsed, Sound}
use Rattle.sound_tables.specs.Labels.{least_with, one_many}
use Rattle.sound_tables.specs.Good.{own}
use Rattle.sound_tables.specs.WriteLaws.{with_column}
use Rattle.sound_cuts.specs.Relation.{Spot, tie_p, tie_n, tie_p', tie_n'}
use Rattle.sound_cuts.specs.KefShown.{face_off}

-- the numbers at half-edge b
abbrev pub spot_at : Columns → ℕ → Spot
spot_at d b = record {
  l = d Loop (mate b);
  m = d Loop b;
  f = d Face (d Loop b);
  a = mate b;
  b = b;
  u = d Start (mate b);
  v = d Start b;
  P = d Prev (mate b);
  N = d Next (mate b);
  Q = d Prev b;
  M = d Next b;
}

-- the loop column once the edge is out
abbrev pub mend_loop : Columns → Spot → ℕ → ℕ
mend_loop d q = upd (upd (relabel (d Loop) q.m q.l) q.a 0) q.b 0

-- all that is written, but the loops of the run
abbrev pub mend_writes : Shape → Columns → Spot → List Write
mend_writes sh d q =
    tied (tie_p q) (tie_n q) ++ (tied (tie_p' q) (tie_n' q)
    ++ (cleared half_kind q.a ++ (cleared half_kind q.b ++ (face_off q
    ++ (write First q.l (least_with (2 * sh.edges) (mend_loop d q) q.l)
    ∷ write Isolated q.l (pick (eqb q.N q.a && eqb q.M q.b) q.u 0) ∷ [])))))

-- the columns once it is out
abbrev pub mend_columns : Shape → Columns → Spot → Columns
mend_columns sh d q = with_column (changes (mend_writes sh d q) d) Loop (mend_loop d q)

-- what kef's test says
pub record KefPlace (sh : Shape) (d : Columns) (b : ℕ) : Type 0 where
  pub used : HalfUsed sh d b
  pub one : (n : ℕ) → In sh.loops n → d Face n ≡ d Face (d Loop b) → n ≡ d Loop b
  pub other : d Face (d Loop (mate b)) ≢ d Face (d Loop b)

-- so it does
pub kef_place : {sh : Shape} {p : List ℤ} (y : List ℕ) → Sound sh p (own sh y) → (b : ℕ) → HalfUsed sh (own sh y) b
    → kef_test sh y b ≡ true → KefPlace sh (own sh y) b
unfolding kef_test
kef_place {sh} y t b w h =
    let d = own sh y in
    let f = d Face (d Loop b) in
    let e = every_T (eqb (count_to sh.loops (λ n. eqb (d Face n) f)) 1 ∷ not (eqb (d Face (d Loop (mate b))) f) ∷ [])
    (true_T h) in
    record {
      used = w;
      one = λ n i g. one_many sh.loops (d Face) f (eqb→eq _ _ e.0) (d Loop b) n
          (t.half b (w.0, w.1) w.2).loop_in refl i g;
      other = λ g. T_not (eqb (d Face (d Loop (mate b))) f) e.1.0 (true_T (eqb_same g));
    }
