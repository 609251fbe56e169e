-- Operators of one operand, the number of an old item: what it says that one is accepted, and when it is.
use Rattle.std.specs.Prelude.{◌≡◌, ◌≢◌, true, false, List, [], ◌∷◌, ℕ, ◌≤◌, eqb, leb, pos, length, get_or, replicate}
use Rattle.std.proofs.Common.{sym, ap, ◌∙◌, subst, arith, lit≤, le-leb}
use Rattle.bounds.specs.Bounds.{most_halves}
use Rattle.script.specs.declared.Operator.{Operator}
use Rattle.codec.specs.Operands.{unused, coordinate, pattern, leasts, largests, in_range, in_ranges, wire, wires}
use Rattle.script.specs.Operator.{operand_of}
use Rattle.layout.specs.declared.shape.Shape.{Shape}
use Rattle.euler.specs.Exec.{limits, use_word, when_free, when_used, use_refusal, use_refusals, condition, refusal_of}
use Rattle.sound_tables.specs.Sound.{In}
use Rattle.sound_tables.specs.Accepted.{by_place, eight, accepted_back, ranges_cons, item_cons, use_old, old_use}
use Rattle.sound_tables.specs.Accepted.{limit_of, in_range_lem, Number, number, unused_range, unused_use}

-- the operator of this code with operand n
abbrev pub one_of : ℕ → ℕ → Operator
one_of code n =
    record { code = code; count = 1; args = pos n ∷ pos 0 ∷ pos 0 ∷ pos 0 ∷ pos 0 ∷ pos 0 ∷ pos 0 ∷ pos 0 ∷ [] }

-- what it says that it is accepted, where the operand is of this kind
pub record OneOperand (sh : Shape) (x : List ℕ) (o : Operator) (code kind : ℕ) : Type 0 where
  pub n : ℕ
  pub is : o ≡ one_of code n
  pub range : In (limit_of (limits sh) kind) n
  pub used : use_word sh x kind n ≢ 0
  pub small : leb n most_halves ≡ true
  pub holds : condition sh x (one_of code n) ≡ true

module _ (sh : Shape) (x : List ℕ) (code kind : ℕ) (count : (pattern code).count ≡ 1)
    (kinds : (pattern code).kinds ≡ kind ∷ replicate 7 unused)
    (plain : eqb kind coordinate ≡ false) (least : get_or leasts kind 0 ≡ 1)
    (most : limit_of (limits sh) kind ≤ most_halves) where
  -- all from the refusal 0
  pub one_operand : get_or when_free kind 0 ≡ 6 → (o : Operator) → length o.args ≡ 8 → o.code ≡ code
      → refusal_of sh x o ≡ 0 → OneOperand sh x o code kind
  one_operand free o len e h =
      let a = by_place sh x o code len (ap length kinds) e h in
      let k : (i : ℕ) → get_or (pattern code).kinds i 0 ≡ get_or (kind ∷ replicate 7 unused) i 0 =
      λ i. ap (λ ks. get_or ks i 0) kinds in
      let n0 : Number (limit_of (limits sh) kind) (get_or o.args 0 (pos 0)) = number (limits sh) kind _ plain least most
      (subst (λ j. in_range (largests (limits sh)) j (wire j (get_or o.args 0 (pos 0))) ≡ true) (k 0)
      (a.range 0 (lit≤ tt))) in
      let is : o ≡ one_of code (operand_of o 0) = λ t. record {
        code = e t;
        count = (a.count ∙ count) t;
        args = (eight o.args len ∙ (λ i. n0.is i ∷ a.rest 1 (lit≤ tt) (k 1) i ∷ a.rest 2 (lit≤ tt) (k 2) i
            ∷ a.rest 3 (lit≤ tt) (k 3) i ∷ a.rest 4 (lit≤ tt) (k 4) i
            ∷ a.rest 5 (lit≤ tt) (k 5) i ∷ a.rest 6 (lit≤ tt) (k 6) i ∷ a.rest 7 (lit≤ tt) (k 7) i ∷ [])) t;
      } in
      record {
        n = operand_of o 0;
        is = is;
        range = n0.range;
        used = use_old sh x kind (operand_of o 0) (omega (arith, n0.range)) free
            (subst (λ j. use_refusal sh x j (operand_of o 0) ≡ 0) (k 0) (a.used 0 (lit≤ tt) n0.small));
        small = le-leb (operand_of o 0) most_halves n0.small;
        holds = subst (λ q. condition sh x q ≡ true) is a.holds;
      }

  -- and back
  pub one_accepted : get_or when_used kind 0 ≡ 0 → (n : ℕ) → In (limit_of (limits sh) kind) n → use_word sh x kind n ≢ 0
      → condition sh x (one_of code n) ≡ true → refusal_of sh x (one_of code n) ≡ 0
  one_accepted old n i u c = accepted_back sh x (one_of code n) (record {
    code = ap (λ m. eqb m 0) count;
    count = ap (eqb 1) count;
    range = subst (λ ks. in_ranges (largests (limits sh)) ks (wires ks (one_of code n).args) ≡ true) (sym kinds)
        (ranges_cons (limits sh) kind (replicate 7 unused) (pos n) (replicate 7 (pos 0))
        (in_range_lem (limits sh) kind n plain least i) (unused_range (limits sh) 7));
    used = subst (λ ks. use_refusals sh x (one_of code n) ks 0 ≡ 0) (sym kinds)
        (item_cons sh x (one_of code n) kind (replicate 7 unused) 0 (omega (arith, i.1, most))
        (old_use sh x kind n (omega (arith, i.0)) old u) (unused_use sh x (one_of code n) 7 1));
    holds = c;
  })
