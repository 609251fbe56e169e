-- What the code's loop over the operands finds, turn by turn.
use Rattle.std.specs.Prelude.{◌≡◌, refl, ℕ, zero, suc, ◌+◌, ◌≤◌, ◌<◌, length, get_or, take, drop, set, eqb}
use Rattle.std.specs.Prelude.{Option, Some, None}
use Rattle.std.proofs.Math.Path.{ap}
use Rattle.std.proofs.Common.{◌∙◌, subst, add-one, arith, drop-cons, take-suc-set, eq-eqb, ne_eqb}
use mathlib.Core.List.{List, [], ◌∷◌, ◌++◌, append_assoc, append-nil}
use Rattle.std.proofs.Math.Seq.{take_all}
use Rattle.laws.specs.Bools.{pick_ind}
use Rattle.numbers.specs.Number.{read_number, on_num}
use Rattle.numbers.specs.NumberTrip.{number_small}
use Rattle.codec.specs.Operands.{unused, Small}
use Rattle.codec.specs.OperandBytes.{on_numbers, read_operand, read_operands}
use Rattle.codec.specs.OperandLaws.{behind}

module _ (k : ℕ) (s : List ℕ) (at : ℕ) where
  pub operand_unused : k ≡ unused → Some (0, at) ≡ read_operand k s at
  unfolding read_operand
  operand_unused e = rw (eq-eqb k unused e)

  pub operand_number : (k ≡ unused → ⊥) → (x : Option (ℕ × ℕ)) → x ≡ read_number s at → x ≡ read_operand k s at
  unfolding read_operand
  operand_number e x f = rw (ne_eqb k unused e) f

-- numbers behind those that were read before
abbrev pub front : List ℕ → Option (List ℕ × ℕ) → Option (List ℕ × ℕ)
front l (Some (ns, next)) = Some (l ++ ns, next)
front l None = None

front_cons : (l : List ℕ) (n : ℕ) (r : Option (List ℕ × ℕ))
    → front (l ++ (n ∷ [])) r ≡ front l (on_numbers r (λ ns end. Some (n ∷ ns, end)) None)
front_cons l n (Some (ns, next)) = ap (λ (m : List ℕ). Some (m, next)) (append_assoc l (n ∷ []) ns)
front_cons l n None = refl

-- as a turn begins, at a refusal, after a turn and at the end
module _ (s ks ys : List ℕ) (i p : ℕ) (q : length ks ≡ 8) (r : length ys ≡ 8) (whole : Option (List ℕ × ℕ))
    (rest : front (take i ys) (read_operands (drop i ks) s p) ≡ whole) where
  more : i < 8
      → front (take i ys) (on_num (read_operand (get_or ks i 0) s p)
      (λ n next. on_numbers (read_operands (drop (suc i) ks) s next) (λ ns end. Some (n ∷ ns, end)) None) None) ≡ whole
  unfolding read_operands
  more h = rw (drop-cons ks i 0 (omega arith)) at rest

  pub operands_cut : i < 8 → read_operand (get_or ks i 0) s p ≡ None → None ≡ whole
  operands_cut h e = rw e at (more h)

  pub operands_turn : (n next : ℕ) → i < 8 → read_operand (get_or ks i 0) s p ≡ Some (n, next)
      → front (take (i + 1) (set ys i n)) (read_operands (drop (i + 1) ks) s next) ≡ whole
  operands_turn n next h e =
      rw (add-one i, take-suc-set ys i n (omega arith))
      (front_cons (take i ys) n (read_operands (drop (suc i) ks) s next) ∙ (rw e at (more h)))

  pub operands_end : 8 ≤ i → Some (ys, p) ≡ whole
  unfolding read_operands
  operands_end h = rw (behind ks i q h, take_all i ys (omega arith), append-nil ys) at rest

-- every number that is read fits three groups
abbrev SmallNum : Option (ℕ × ℕ) → Type 0
SmallNum (Some (n, next)) = n < 2097152
SmallNum None = Unit {0}

abbrev SmallNumbers : Option (List ℕ × ℕ) → Type 0
SmallNumbers (Some (ns, next)) = Small ns
SmallNumbers None = Unit {0}

-- of a number, of an operand, of all of them
small_number : (s : List ℕ) (at : ℕ) → SmallNum (read_number s at)
small_number s at = by (read_number s at) refl
  where
    by : (x : Option (ℕ × ℕ)) → read_number s at ≡ x → SmallNum x
    by (Some (n, next)) e = number_small s at n next e
    by None e = tt

operand_small : (k : ℕ) (s : List ℕ) (at : ℕ) → SmallNum (read_operand k s at)
unfolding read_operand
operand_small k s at = pick_ind SmallNum (eqb k unused) _ _ (omega arith) (small_number s at)

small_cons : (n : ℕ) (ns : List ℕ) → n < 2097152 → Small ns → Small (n ∷ ns)
small_cons n ns h r = record { at = go }
  where
    go : (i : ℕ) → get_or (n ∷ ns) i 0 < 2097152
    go zero = h
    go (suc i) = r.at i

operands_small : (ks s : List ℕ) (at : ℕ) → SmallNumbers (read_operands ks s at)
unfolding read_operands
operands_small [] s at = record { at = λ i. omega arith }
operands_small (k ∷ ks) s at = step (read_operand k s at) (operand_small k s at) (λ next. operands_small ks s next)
  where
    cons : (n : ℕ) (r : Option (List ℕ × ℕ)) → n < 2097152 → SmallNumbers r
        → SmallNumbers (on_numbers r (λ ns end. Some (n ∷ ns, end)) None)
    cons n (Some (ns, next)) h rest = small_cons n ns h rest
    cons n None h rest = tt

    step : (x : Option (ℕ × ℕ)) → SmallNum x → ((next : ℕ) → SmallNumbers (read_operands ks s next))
        → SmallNumbers (on_num x
        (λ n next. on_numbers (read_operands ks s next) (λ ns end. Some (n ∷ ns, end)) None) None)
    step (Some (n, next)) h rest = cons n (read_operands ks s next) h (rest next)
    step None h rest = tt

pub small_read : (ks s : List ℕ) (at : ℕ) (ns : List ℕ) (next : ℕ) → read_operands ks s at ≡ Some (ns, next) → Small ns
small_read ks s at ns next e = subst SmallNumbers e (operands_small ks s at)
