-- kemr as an operator: what an accepted one says of the table, that what is asked is enough, and what it does to links
-- and points; and the operator that undoes each of the two.
use Rattle.std.specs.Prelude.{◌≡◌, true, List, [], ◌∷◌, ℕ, leb, ℤ, pos, length}
use Rattle.std.proofs.Math.Path.{refl}
use Rattle.std.proofs.Common.{arith, eqb→eq, le-leb}
use Rattle.laws.specs.Bools.{true_T, eqb_same}
use Rattle.bounds.specs.Bounds.{most_halves}
use Rattle.script.specs.declared.Operator.{Operator}
use Rattle.codec.specs.Operands.{pattern, rows}
use Rattle.layout.specs.declared.shape.Shape.{Shape}
use Rattle.layout.specs.Mate.{mate, edge_of}
use Rattle.euler.specs.Surgery.{half_by, way_of}
use Rattle.euler.specs.EdgeOperators.{kemr_test, kemr_links}
use Rattle.euler.specs.Valence.{ends, leave_of}
use Rattle.euler.specs.Exec.{use_word, condition, refusal_of, marks_after, points_after, inverse}
use Rattle.layout.specs.Fields.{Loop}
use Rattle.sound_tables.specs.Accepted.{use_new, new_use}
use Rattle.sound_tables.specs.TwoOperands.{two_operands, two_accepted}
use Rattle.sound_tables.specs.Good.{own, Capacities}
use Rattle.sound_tables.specs.CornerTest.{corner_left}
use Rattle.sound_bridges.specs.KemrColumns.{kemr_list, Span}
use Rattle.sound_bridges.specs.MekrAccepted.{mekr_of, MekrFacts, read, small}

-- kemr k l2
abbrev pub kemr_of : ℕ → ℕ → Operator
kemr_of k l2 = record
    { code = 7; count = 2; args = pos k ∷ pos l2 ∷ pos 0 ∷ pos 0 ∷ pos 0 ∷ pos 0 ∷ pos 0 ∷ pos 0 ∷ [] }

-- what an accepted kemr says
pub record KemrFacts (sh : Shape) (x : List ℕ) (o : Operator) : Type 0 where
  pub k : ℕ
  pub l2 : ℕ
  pub is : o ≡ kemr_of k l2
  pub span : Span sh (own sh x) k l2

-- the two halves lie in one loop
kemr_test_lem : (sh : Shape) (x : List ℕ) (k : ℕ) → kemr_test sh x k ≡ true → own sh x Loop (mate k) ≡ own sh x Loop k
unfolding kemr_test
kemr_test_lem sh x k t = eqb→eq _ _ (true_T t)

-- all from the refusal 0
pub kemr_facts : (sh : Shape) (x : List ℕ) (o : Operator) → Capacities sh → length o.args ≡ 8 → o.code ≡ 7
    → refusal_of sh x o ≡ 0 → KemrFacts sh x o
unfolding pattern rows use_word condition
kemr_facts sh x o caps len e h =
    let a = two_operands sh x 7 9 7 refl refl refl refl (omega (arith, caps.edges)) refl refl
    (omega (arith, caps.loops)) refl o len e h in
    record {
      k = a.m;
      l2 = a.n;
      is = a.is;
      span = record {
        half = (a.m_in.0, a.m_in.1, a.m_used);
        one = kemr_test_lem sh x a.m (rw a.m_small at a.holds);
        ring_in = a.n_in;
        free = use_new sh x 7 a.n (omega (arith, a.n_in.0)) refl a.n_use;
      };
    }

module _ (sh : Shape) (x : List ℕ) {k l2 : ℕ} (caps : Capacities sh) (o : Span sh (own sh x) k l2) where
  -- both numbers are read as they stand
  kn : leb k most_halves ≡ true
  kn = le-leb k most_halves (omega (arith, o.half.1, caps.edges))

  -- the ring too
  ln : leb l2 most_halves ≡ true
  ln = le-leb l2 most_halves (omega (arith, o.ring_in.1, caps.loops))

  -- it is accepted
  pub kemr_accepted : refusal_of sh x (kemr_of k l2) ≡ 0
  unfolding pattern rows use_word condition kemr_test
  kemr_accepted = two_accepted sh x 7 9 7 refl refl refl refl (omega (arith, caps.edges)) refl refl
      (omega (arith, caps.loops)) refl k l2 (o.half.0, o.half.1) o.ring_in o.half.2
      (new_use sh x 7 l2 (omega (arith, o.ring_in.0)) refl o.free) (rw kn (eqb_same o.one))

  -- what it does to the list
  pub kemr_links_lem : marks_after sh x (kemr_of k l2) ≡ kemr_list sh x k l2
  unfolding marks_after kemr_links
  kemr_links_lem = rw (kn, ln)

  -- where half-edges leave
  pub kemr_leave : leave_of sh x (kemr_of k l2) ≡ ends sh x k
  kemr_leave = rw kn

  -- to the points
  pub kemr_points : (p : List ℤ) → points_after sh x p (kemr_of k l2) ≡ p
  unfolding points_after
  kemr_points p = refl

  -- and the operator that undoes it
  pub kemr_inverse_lem : (p : List ℤ) → inverse sh x p (kemr_of k l2)
      ≡ mekr_of (own sh x Loop k) (corner_left (own sh x) k (mate k)) l2 (corner_left (own sh x) (mate k) k) (edge_of k)
      (way_of k)
  unfolding inverse
  kemr_inverse_lem p = rw (kn, ln)

-- the operator that undoes mekr
pub mekr_inverse_lem : (sh : Shape) (x : List ℕ) (p : List ℤ) {l h1 l2 h2 e w : ℕ} → Capacities sh
    → MekrFacts sh (own sh x) l h1 l2 h2 e w → inverse sh x p (mekr_of l h1 l2 h2 e w) ≡ kemr_of (half_by e w) l2
unfolding inverse
mekr_inverse_lem sh x p caps r = let s = small sh x caps r in rw (read s.2, read s.4, read s.5)
