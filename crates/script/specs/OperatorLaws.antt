-- The ways out of the code that writes an operator.
use Rattle.std.specs.Prelude.{◌≡◌, ◌≢◌, ℕ, ◌+◌, ◌-◌, ◌≤◌, ◌<◌, Bool, true, false, get_or, ℤ, pos, negsuc}
use Rattle.std.proofs.Math.Path.{refl}
use Rattle.std.proofs.Common.{sym, ap, ◌∙◌, length-append}
use native.Mathlib.Omega.{arith}
use mathlib.Core.List.{List, ◌++◌, map}
use Rattle.std.proofs.Math.ListN.{length, get_or-eq_default}
use Rattle.std.proofs.lemmas.List.{length-map}
use Rattle.std.proofs.lemmas.List.Edits.{sets}
use borrow.Author.Tests.{le-leb, lt-leb, eq-eqb, ne_eqb}
use Rattle.refusals.specs.declared.Refusal.{Refusal}
use Rattle.refusals.specs.declared.Refusal.TheVariants.{Memory, Unsound, BadNumber, BadCode, OutOfRange, ItemFree}
use Rattle.refusals.specs.declared.Refusal.TheVariants.{ItemUsed, ConditionFails, LogFull, NoNumberLeft}
use Rattle.refusals.specs.declared.Refusal.TheVariants.{LogEnded, NotPlain, TextTooLong, LoneLoop}
use Rattle.refusals.specs.Numbers.{number_of, refusal_in, unless}
use Rattle.script.specs.declared.Operator.{Operator}
use Rattle.codec.specs.declared.operands.Pattern.{Pattern}
use Rattle.numbers.specs.Number.{groups}
use Rattle.codec.specs.Operands.{pattern, widest, largests, in_ranges, filled, wires}
use Rattle.codec.specs.OperandBytes.{operands_bytes}
use Rattle.script.specs.Operator.{nat_of, numbers_of, operator_bytes, operator_refusal}
use Rattle.script.specs.Operator.{put_bytes, written, not_written, write_operator}
use Rattle.numbers.specs.NumberLaws.{groups_size}
use Rattle.codec.specs.WriteLaws.{sets_append}
use Rattle.codec.specs.Ranges.{eight}
use Rattle.codec.specs.BeforeLaws.{before_turn, pattern_filled, operands_bound}

-- an operator takes at most 27 bytes
pub operator_bound : (op : Operator) → length (operator_bytes op) ≤ 27
unfolding operator_bytes
operator_bound op =
    let e = length-append (groups op.code) (operands_bytes (pattern op.code).kinds (numbers_of op)) in
    let g = groups_size op.code in
    let o = operands_bound (pattern op.code).kinds (numbers_of op) in
    let k = eight op.code in
    omega arith

module _ (op : Operator) (p : Pattern) (e : p ≡ pattern op.code) where
  pub refusal_code : p.count ≡ 0 → 4 ≡ operator_refusal op
  unfolding operator_refusal
  refusal_code z = rw (← e, eq-eqb p.count 0 z)

  pub refusal_count : (p.count ≡ 0 → ⊥) → (op.count ≡ p.count → ⊥) → 5 ≡ operator_refusal op
  unfolding operator_refusal
  refusal_count z n = rw (← e, ne_eqb p.count 0 z, ne_eqb op.count p.count n)

  module _ (ns : List ℕ) (f : ns ≡ wires p.kinds op.args) where
    pub refusal_ranges : p.count ≢ 0 → op.count ≡ p.count → (most : List ℕ) → most ≡ largests widest → (t : Bool)
        → t ≡ in_ranges most p.kinds ns → refusal_in (unless t OutOfRange) ≡ operator_refusal op
    unfolding operator_refusal
    refusal_ranges z n most m true t = rw (← e, ne_eqb p.count 0 z, eq-eqb op.count p.count n, ← f, ← m, ← t)
    refusal_ranges z n most m false t = rw (← e, ne_eqb p.count 0 z, eq-eqb op.count p.count n, ← f, ← m, ← t)

    bytes_are : operator_bytes op ≡ groups op.code ++ operands_bytes p.kinds ns
    unfolding operator_bytes
    bytes_are = rw (← e, ← f)

    pub size_is : length (operator_bytes op) ≡ length (groups op.code) + length (operands_bytes p.kinds ns)
    size_is = rw bytes_are (length-append (groups op.code) (operands_bytes p.kinds ns))

    pub put_done : (l y z : List ℕ) (at behind : ℕ) → at + length (operator_bytes op) ≤ length l
        → y ≡ sets l at (groups op.code)
        → behind ≡ at + length (groups op.code) → z ≡ sets y behind (operands_bytes p.kinds ns)
        → z ≡ put_bytes l at (operator_bytes op)
    unfolding put_bytes
    put_done l y z at behind h a b d =
        rw (le-leb (at + length (operator_bytes op)) (length l) h, bytes_are, d, b, a)
        (sym (sets_append l at (groups op.code) (operands_bytes p.kinds ns)))

-- written from the last operand to the code, the bytes end before `end`
module _ (op : Operator) (p : Pattern) (e : p ≡ pattern op.code) where
  pub before_filled : filled p.count p.kinds ≡ true
  before_filled = ap (λ (q : Pattern). filled q.count q.kinds) e ∙ pattern_filled op.code

  abbrev operands : List ℕ
  operands = operands_bytes p.kinds (wires p.kinds op.args)

  pub before_size : length (operator_bytes op) ≡ length (groups op.code) + length operands
  before_size = size_is op p e (wires p.kinds op.args) refl

  pub before_done : (l y z : List ℕ) (end from to : ℕ) → length (operator_bytes op) ≤ end → end ≤ length l
      → from ≡ end - length operands → y ≡ sets l from operands → to ≡ from - length (groups op.code)
      → z ≡ sets y (from - length (groups op.code)) (groups op.code)
      → (to ≡ end - length (operator_bytes op))
      × (z ≡ put_bytes l (end - length (operator_bytes op)) (operator_bytes op))
  unfolding put_bytes
  before_done l y z end from to h k a b d g =
      let s = before_size in
      let t : to ≡ end - length (operator_bytes op) = omega arith in (
        t,
        rw (le-leb (end - length (operator_bytes op) + length (operator_bytes op)) (length l) (omega arith))
            (before_turn l y z from (end - length (operator_bytes op)) (groups op.code) operands (operator_bytes op)
            (bytes_are op p e (wires p.kinds op.args) refl) b (omega arith) (omega arith) g),
      )

pub put_not : (l : List ℕ) (at : ℕ) (bytes : List ℕ) → length l < at + length bytes → l ≡ put_bytes l at bytes
unfolding put_bytes
put_not l at bytes h = rw (lt-leb (at + length bytes) (length l) h)

-- each refusal has a number
pub refusal_some : (e : Refusal) → 0 < number_of e
refusal_some Memory = omega arith
refusal_some (Unsound rule) = omega arith
refusal_some BadNumber = omega arith
refusal_some BadCode = omega arith
refusal_some OutOfRange = omega arith
refusal_some ItemFree = omega arith
refusal_some ItemUsed = omega arith
refusal_some ConditionFails = omega arith
refusal_some LogFull = omega arith
refusal_some NoNumberLeft = omega arith
refusal_some LogEnded = omega arith
refusal_some NotPlain = omega arith
refusal_some TextTooLong = omega arith
refusal_some LoneLoop = omega arith

module _ (op : Operator) (out : List ℕ) (r : ℕ) (e : r ≡ operator_refusal op) where
  pub write_refused : (r ≡ 0 → ⊥) → not_written r out ≡ write_operator op out
  unfolding write_operator
  write_refused n = rw (← e, ne_eqb r 0 n)

  module _ (z : r ≡ 0) (size : ℕ) (f : size ≡ length (operator_bytes op)) where
    pub write_short : length out < size → not_written 9 out ≡ write_operator op out
    unfolding write_operator
    write_short h = rw (← e, eq-eqb r 0 z, ← f, lt-leb size (length out) h) refl

    pub write_done : size ≤ length out → (y : List ℕ) → y ≡ put_bytes out 0 (operator_bytes op)
        → written (record { refusal = 0; length = size }) y ≡ write_operator op out
    unfolding write_operator put_bytes
    write_done h y g =
        let k : length (operator_bytes op) ≤ length out = omega arith in
        let n : 0 + length (operator_bytes op) ≡ length (operator_bytes op) = omega arith in
        rw (← e, eq-eqb r 0 z, f, le-leb (length (operator_bytes op)) (length out) k)
        (ap (λ (l : List ℕ). written (record { refusal = 0; length = length (operator_bytes op) }) l)
        (rw (n, le-leb (length (operator_bytes op)) (length out) k) at g))
