-- Operators of two operands, the numbers of an old item and of another: what it says that one is accepted, and when it
-- is.
use Rattle.std.specs.Prelude.{◌≡◌, ◌≢◌, true, false, List, [], ◌∷◌, ℕ, ◌≤◌, ◌<◌, eqb, leb, pos, length, get_or}
use Rattle.std.specs.Prelude.{replicate}
use Rattle.std.proofs.Common.{sym, ap, ◌∙◌, subst, arith, lit≤, le-leb}
use Rattle.bounds.specs.Bounds.{most_halves}
use Rattle.script.specs.declared.Operator.{Operator}
use Rattle.codec.specs.Operands.{unused, coordinate, pattern, leasts, largests, in_range, in_ranges, wire, wires}
use Rattle.script.specs.Operator.{operand_of}
use Rattle.layout.specs.declared.shape.Shape.{Shape}
use Rattle.euler.specs.Exec.{limits, use_word, when_free, when_used, use_refusal, use_refusals, condition, refusal_of}
use Rattle.sound_tables.specs.Sound.{In}
use Rattle.sound_tables.specs.Accepted.{by_place, eight, accepted_back, ranges_cons, item_cons, use_old, old_use}
use Rattle.sound_tables.specs.Accepted.{limit_of, in_range_lem, Number, number, unused_range, unused_use}

-- the operator of this code with operands m and n
abbrev pub two_of : ℕ → ℕ → ℕ → Operator
two_of code m n =
    record { code = code; count = 2; args = pos m ∷ pos n ∷ pos 0 ∷ pos 0 ∷ pos 0 ∷ pos 0 ∷ pos 0 ∷ pos 0 ∷ [] }

-- what it says that it is accepted, where the operands are of the kinds j and k
pub record TwoOperands (sh : Shape) (x : List ℕ) (o : Operator) (code j k : ℕ) : Type 0 where
  pub m : ℕ
  pub n : ℕ
  pub is : o ≡ two_of code m n
  pub m_in : In (limit_of (limits sh) j) m
  pub n_in : In (limit_of (limits sh) k) n
  pub m_used : use_word sh x j m ≢ 0
  pub n_use : use_refusal sh x k n ≡ 0
  pub m_small : leb m most_halves ≡ true
  pub n_small : leb n most_halves ≡ true
  pub holds : condition sh x (two_of code m n) ≡ true

module _ (sh : Shape) (x : List ℕ) (code j k : ℕ) (count : (pattern code).count ≡ 2)
    (kinds : (pattern code).kinds ≡ j ∷ k ∷ replicate 6 unused)
    (j-plain : eqb j coordinate ≡ false) (j-least : get_or leasts j 0 ≡ 1)
    (j-most : limit_of (limits sh) j ≤ most_halves)
    (k-plain : eqb k coordinate ≡ false) (k-least : get_or leasts k 0 ≡ 1)
    (k-most : limit_of (limits sh) k ≤ most_halves) where
  -- all from the refusal 0
  pub two_operands : get_or when_free j 0 ≡ 6 → (o : Operator) → length o.args ≡ 8 → o.code ≡ code
      → refusal_of sh x o ≡ 0 → TwoOperands sh x o code j k
  two_operands free o len e h =
      let a = by_place sh x o code len (ap length kinds) e h in
      let q : (i : ℕ) → get_or (pattern code).kinds i 0 ≡ get_or (j ∷ k ∷ replicate 6 unused) i 0 =
      λ i. ap (λ ks. get_or ks i 0) kinds in
      let r : (i : ℕ) → i < 8 → in_range (largests (limits sh)) (get_or (j ∷ k ∷ replicate 6 unused) i 0)
      (wire (get_or (j ∷ k ∷ replicate 6 unused) i 0) (get_or o.args i (pos 0))) ≡ true
      = λ i l. subst (λ t. in_range (largests (limits sh)) t (wire t (get_or o.args i (pos 0))) ≡ true) (q i)
      (a.range i l) in
      let n0 : Number (limit_of (limits sh) j) (get_or o.args 0 (pos 0)) =
      number (limits sh) j _ j-plain j-least j-most (r 0 (lit≤ tt)) in
      let n1 : Number (limit_of (limits sh) k) (get_or o.args 1 (pos 0)) =
      number (limits sh) k _ k-plain k-least k-most (r 1 (lit≤ tt)) in
      let is : o ≡ two_of code (operand_of o 0) (operand_of o 1) = λ t. record {
        code = e t;
        count = (a.count ∙ count) t;
        args = (eight o.args len ∙ (λ i. n0.is i ∷ n1.is i ∷ a.rest 2 (lit≤ tt) (q 2) i ∷ a.rest 3 (lit≤ tt)
            (q 3) i ∷ a.rest 4 (lit≤ tt) (q 4) i
            ∷ a.rest 5 (lit≤ tt) (q 5) i ∷ a.rest 6 (lit≤ tt) (q 6) i ∷ a.rest 7 (lit≤ tt) (q 7) i ∷ [])) t;
      } in
      record {
        m = operand_of o 0;
        n = operand_of o 1;
        is = is;
        m_in = n0.range;
        n_in = n1.range;
        m_used = use_old sh x j (operand_of o 0) (omega (arith, n0.range)) free
            (subst (λ t. use_refusal sh x t (operand_of o 0) ≡ 0) (q 0) (a.used 0 (lit≤ tt) n0.small));
        n_use = subst (λ t. use_refusal sh x t (operand_of o 1) ≡ 0) (q 1) (a.used 1 (lit≤ tt) n1.small);
        m_small = le-leb (operand_of o 0) most_halves n0.small;
        n_small = le-leb (operand_of o 1) most_halves n1.small;
        holds = subst (λ u. condition sh x u ≡ true) is a.holds;
      }

  -- and back
  pub two_accepted : get_or when_used j 0 ≡ 0 → (m n : ℕ) → In (limit_of (limits sh) j) m
      → In (limit_of (limits sh) k) n
      → use_word sh x j m ≢ 0 → use_refusal sh x k n ≡ 0
      → condition sh x (two_of code m n) ≡ true → refusal_of sh x (two_of code m n) ≡ 0
  two_accepted old m n i l u w c = accepted_back sh x (two_of code m n) (record {
    code = ap (λ t. eqb t 0) count;
    count = ap (eqb 2) count;
    range = subst (λ ks. in_ranges (largests (limits sh)) ks (wires ks (two_of code m n).args) ≡ true) (sym kinds)
        (ranges_cons (limits sh) j (k ∷ replicate 6 unused) (pos m) (pos n ∷ replicate 6 (pos 0))
        (in_range_lem (limits sh) j m j-plain j-least i)
        (ranges_cons (limits sh) k (replicate 6 unused) (pos n) (replicate 6 (pos 0))
        (in_range_lem (limits sh) k n k-plain k-least l) (unused_range (limits sh) 6)));
    used = subst (λ ks. use_refusals sh x (two_of code m n) ks 0 ≡ 0) (sym kinds)
        (item_cons sh x (two_of code m n) j (k ∷ replicate 6 unused) 0 (omega (arith, i.1, j-most))
        (old_use sh x j m (omega (arith, i.0)) old u)
        (item_cons sh x (two_of code m n) k (replicate 6 unused) 1 (omega (arith, l.1, k-most)) w
        (unused_use sh x (two_of code m n) 6 2)));
    holds = c;
  })
