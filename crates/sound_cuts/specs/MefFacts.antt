-- What is known of the operands of an accepted mef: they are in range, in use or free as they should be, and name
-- corners of the loop.
use Rattle.std.specs.Prelude.{◌≡◌, refl, ◌≢◌, true, not, ◌&&◌, ◌||◌, List, [], ◌∷◌, ℕ, ◌*◌, ◌≤◌, T, eqb, leb, pos}
use Rattle.std.specs.Prelude.{length, get_or}
use Rattle.std.proofs.Common.{◌∙◌, subst, arith, eqb→eq, le→leb, lit≤, T_not, le-leb}
use Rattle.laws.specs.Bools.{true_T, and_T, imp_T, eqb_same}
use Rattle.laws.specs.Every.{every_T}
use Rattle.bounds.specs.Bounds.{most_halves}
use Rattle.script.specs.declared.Operator.{Operator}
use Rattle.codec.specs.Operands.{pattern, rows}
use Rattle.script.specs.Operator.{operand_of}
use Rattle.layout.specs.declared.shape.Shape.{Shape}
use Rattle.euler.specs.Surgery.{corner}
use Rattle.euler.specs.EdgeOperators.{mef_test}
use Rattle.euler.specs.Exec.{limits, use_word, condition, refusal_of}
use Rattle.layout.specs.Fields.{Solid, Face, Start, Columns}
use Rattle.sound_tables.specs.Sound.{In}
use Rattle.sound_tables.specs.Accepted.{by_place, eight, use_old, use_new, Number, number, number_or_none}
use Rattle.sound_tables.specs.Good.{own, Capacities}
use Rattle.sound_tables.specs.CornerTest.{CornerAt, test_corner}
use Rattle.sound_cuts.specs.MefOperands.{mef_of}

-- the operands
pub record MefFacts (sh : Shape) (c : Columns) (o : Operator) : Type 0 where
  pub l : ℕ
  pub h1 : ℕ
  pub h2 : ℕ
  pub e : ℕ
  pub f : ℕ
  pub m : ℕ
  pub w : ℕ
  pub is : o ≡ mef_of l h1 h2 e f m w
  pub l_in : In sh.loops l
  pub l_used : c Face l ≢ 0
  pub e_in : In sh.edges e
  pub e_free : c Start (2 * e) ≡ 0
  pub f_in : In sh.faces f
  pub f_free : c Solid f ≡ 0
  pub m_in : In sh.loops m
  pub m_free : c Face m ≡ 0
  pub corner1 : CornerAt sh c l h1
  pub corner2 : CornerAt sh c l h2
  pub high : 2 ≤ w → (h1 ≡ h2) × (h1 ≢ 0)
  pub way : w ≤ 3

-- the test, taken apart
test_says : (sh : Shape) (x : List ℕ) (l h1 h2 w : ℕ) → mef_test sh x l h1 h2 w ≡ true → T (corner sh x l h1)
    × T (corner sh x l h2) × (2 ≤ w → (h1 ≡ h2) × (h1 ≢ 0))
unfolding mef_test
test_says sh x l h1 h2 w t =
    let r = every_T (corner sh x l h1 ∷ corner sh x l h2 ∷ (not (leb 2 w) || (eqb h1 h2 && not (eqb h1 0))) ∷ [])
    (true_T t) in (
      r.0,
      r.1.0,
      λ h. let s = and_T (eqb h1 h2) (not (eqb h1 0))
          (imp_T (leb 2 w) (eqb h1 h2 && not (eqb h1 0)) r.1.1.0 (le→leb 2 w h)) in
          (eqb→eq h1 h2 s.0, λ z. T_not (eqb h1 0) s.1 (true_T (eqb_same z))),
    )

-- all from the refusal 0
pub mef_facts : (sh : Shape) (x : List ℕ) (o : Operator) → Capacities sh → length o.args ≡ 8 → o.code ≡ 5
    → refusal_of sh x o ≡ 0 → MefFacts sh (own sh x) o
unfolding pattern rows use_word condition
mef_facts sh x o caps len e h =
    let a = by_place sh x o 5 len refl e h in
    let r = a.range in
    let u = a.used in
    let n0 : Number sh.loops (get_or o.args 0 (pos 0)) =
    number (limits sh) 6 _ refl refl (omega (arith, caps.loops)) (r 0 (lit≤ tt)) in
    let n1 : (get_or o.args 1 (pos 0) ≡ pos (operand_of o 1)) × (operand_of o 1 ≤ 2 * sh.edges) =
    number_or_none (limits sh) 10 _ refl (omega (arith, caps.edges)) (r 1 (lit≤ tt)) in
    let n2 : (get_or o.args 2 (pos 0) ≡ pos (operand_of o 2)) × (operand_of o 2 ≤ 2 * sh.edges) =
    number_or_none (limits sh) 10 _ refl (omega (arith, caps.edges)) (r 2 (lit≤ tt)) in
    let n3 : Number sh.edges (get_or o.args 3 (pos 0)) =
    number (limits sh) 8 _ refl refl (omega (arith, caps.edges)) (r 3 (lit≤ tt)) in
    let n4 : Number sh.faces (get_or o.args 4 (pos 0)) =
    number (limits sh) 5 _ refl refl (omega (arith, caps.faces)) (r 4 (lit≤ tt)) in
    let n5 : Number sh.loops (get_or o.args 5 (pos 0)) =
    number (limits sh) 7 _ refl refl (omega (arith, caps.loops)) (r 5 (lit≤ tt)) in
    let n6 : (get_or o.args 6 (pos 0) ≡ pos (operand_of o 6)) × (operand_of o 6 ≤ 3) =
    number_or_none (limits sh) 13 _ refl (lit≤ tt) (r 6 (lit≤ tt)) in
    let s1 : operand_of o 1 ≤ most_halves = omega (arith, n1.1, caps.edges) in
    let s2 : operand_of o 2 ≤ most_halves = omega (arith, n2.1, caps.edges) in
    let s6 : operand_of o 6 ≤ most_halves = omega (arith, n6.1) in
    let is : o ≡ mef_of (operand_of o 0) (operand_of o 1) (operand_of o 2) (operand_of o 3) (operand_of o 4)
    (operand_of o 5)
    (operand_of o 6) = λ t. record {
      code = e t;
      count = a.count t;
      args = (eight o.args len ∙ (λ i. n0.is i ∷ n1.0 i ∷ n2.0 i ∷ n3.is i ∷ n4.is i ∷ n5.is i ∷ n6.0 i
          ∷ a.rest 7 (lit≤ tt) refl i ∷ [])) t;
    } in
    let t = test_says sh x (operand_of o 0) (operand_of o 1) (operand_of o 2) (operand_of o 6)
    (rw (
      le-leb (operand_of o 0) most_halves n0.small,
      le-leb (operand_of o 1) most_halves s1,
      le-leb
          (operand_of o 2) most_halves s2,
      le-leb (operand_of o 6) most_halves s6,
    ) at (subst (λ q. condition sh x q ≡ true) is a.holds)) in
    record {
      l = operand_of o 0;
      h1 = operand_of o 1;
      h2 = operand_of o 2;
      e = operand_of o 3;
      f = operand_of o 4;
      m = operand_of o 5;
      w = operand_of o 6;
      is = is;
      l_in = n0.range;
      l_used = use_old sh x 6 (operand_of o 0) (omega (arith, n0.range)) refl (u 0 (lit≤ tt) n0.small);
      e_in = n3.range;
      e_free = use_new sh x 8 (operand_of o 3) (omega (arith, n3.range)) refl (u 3 (lit≤ tt) n3.small);
      f_in = n4.range;
      f_free = use_new sh x 5 (operand_of o 4) (omega (arith, n4.range)) refl (u 4 (lit≤ tt) n4.small);
      m_in = n5.range;
      m_free = use_new sh x 7 (operand_of o 5) (omega (arith, n5.range)) refl (u 5 (lit≤ tt) n5.small);
      corner1 = test_corner sh x (operand_of o 0) (operand_of o 1) n1.1 (u 1 (lit≤ tt) s1) t.0;
      corner2 = test_corner sh x (operand_of o 0) (operand_of o 2) n2.1 (u 2 (lit≤ tt) s2) t.1;
      high = t.2;
      way = n6.1;
    }
