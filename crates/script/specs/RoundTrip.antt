-- Operators: what is written is read back, and what is read is what would be written, in whatever form it stands.
use Rattle.std.specs.Prelude.{◌≡◌, refl, ℕ, ◌+◌, ◌≤◌, ◌<◌, Bool, true, false, List, ◌++◌, length, drop, eqb}
use Rattle.std.proofs.Common.{sym, ◌∙◌, add_assoc, arith, append_assoc, length-append, eq-eqb, ne_eqb, eqb-true}
use Rattle.std.proofs.Math.Seq.{drop-append_seam}
use Rattle.std.proofs.lemmas.Bool.{eqb-false}
use Rattle.laws.specs.Bools.{pick}
use Rattle.codec.specs.declared.Limits.{Limits}
use Rattle.script.specs.declared.Operator.{Operator}
use Rattle.numbers.specs.Number.{groups}
use Rattle.codec.specs.Operands.{pattern, widest, largests, in_ranges, wire, unwire}
use Rattle.codec.specs.OperandBytes.{operands_bytes}
use Rattle.script.specs.Operator.{read_operator, numbers_of, operator_bytes, operator_refusal}
use Rattle.numbers.specs.NumberTrip.{number_written, number_next}
use Rattle.numbers.specs.PaddedLaws.{drop_part, PadsAt, pads_both, number_pads}
use Rattle.codec.specs.Ranges.{Within, within_largest, ranges_wider, eight, code_between}
use Rattle.codec.specs.OperandTrip.{operands_written, operands_pads, operands_next, operands_length}
use Rattle.codec.specs.OperandTrip.{wires_unwires, unwires_wires, each_length}
use Rattle.script.specs.Accepted.{Accepted, accepted, read_accepted, operator_is}

-- an operator that can be written: a record of eight operands that writing does not refuse
pub record Writable (op : Operator) : Type 0 where
  pub eight_args : length op.args ≡ 8
  pub not_refused : operator_refusal op ≡ 0

-- what not to be refused means
pub record Parts (op : Operator) : Type 0 where
  pub is_code : (pattern op.code).count ≡ 0 → ⊥
  pub count_is : op.count ≡ (pattern op.code).count
  pub ranges : in_ranges (largests widest) (pattern op.code).kinds (numbers_of op) ≡ true

tests : (a b t : Bool) → ◌≡◌ {A = ℕ} (pick a 4 (pick b (pick t 0 5) 5)) 0 → (a ≡ false) × (b ≡ true) × (t ≡ true)
tests true b t e = absurd (omega arith)
tests false true true e = (refl, refl, refl)
tests false true false e = absurd (omega arith)
tests false false t e = absurd (omega arith)

pub parts : (op : Operator) → operator_refusal op ≡ 0 → Parts op
unfolding operator_refusal
parts op e =
    let t =
    tests (eqb (pattern op.code).count 0) (eqb op.count (pattern op.code).count)
    (in_ranges (largests widest) (pattern op.code).kinds (numbers_of op)) e in
    record { is_code = eqb-false _ 0 t.0; count_is = eqb-true _ _ t.1; ranges = t.2 }

whole : (op : Operator) → Parts op → operator_refusal op ≡ 0
unfolding operator_refusal
whole op p =
    rw (
      ne_eqb (pattern op.code).count 0 p.is_code,
      eq-eqb op.count (pattern op.code).count p.count_is,
      p.ranges,
    )

-- the operator is made of its numbers
same_operator : (op : Operator) → length op.args ≡ 8 → Parts op → operator_is op.code (numbers_of op) ≡ op
same_operator op l p =
    let k = eight op.code in
    rw (unwires_wires (pattern op.code).kinds op.args (omega arith) p.ranges, ← p.count_is)

-- WRITE, THEN READ: an operator written anywhere comes back the same, and `next` is the place behind its bytes
pub operator_written : (op : Operator) → Writable op → (s : List ℕ) (at : ℕ) (q : List ℕ)
    → drop at s ≡ operator_bytes op
    ++ q
    → read_operator widest s at ≡ record { refusal = 0; next = at + length (operator_bytes op); op = op }
unfolding operator_bytes
operator_written op w s at q e =
    let p = parts op w.not_refused in
    let k = eight op.code in
    let c = code_between op.code p.is_code in
    let l = w.eight_args in
    let f : drop at s ≡ groups op.code ++ (operands_bytes (pattern op.code).kinds (numbers_of op) ++ q) =
    e ∙ append_assoc (groups op.code) (operands_bytes (pattern op.code).kinds (numbers_of op)) q in
    let a = number_written s at op.code (operands_bytes (pattern op.code).kinds (numbers_of op) ++ q)
    (omega arith) f in
    let g : drop (at + length (groups op.code)) s ≡ operands_bytes (pattern op.code).kinds (numbers_of op) ++ q =
    drop_part s at (groups op.code) _ f in
    let n : length (numbers_of op) ≡ length (pattern op.code).kinds =
    each_length wire (pattern op.code).kinds op.args (omega arith) in
    let b = operands_written (pattern op.code).kinds (numbers_of op) s (at + length (groups op.code)) q (sym n)
    p.ranges g in
    read_accepted widest s at op.code _ _ _ a p.is_code b p.ranges
    ∙ rw (
      same_operator op l p,
      length-append (groups op.code) (operands_bytes (pattern op.code).kinds (numbers_of op)),
      add_assoc at (length (groups op.code)) (length (operands_bytes (pattern op.code).kinds (numbers_of op))),
    )

pub read_written : (op : Operator) → Writable op → (p q : List ℕ)
    → read_operator widest (p ++ (operator_bytes op ++ q)) (length p)
    ≡ record { refusal = 0; next = length p + length (operator_bytes op); op = op }
read_written op w p q = operator_written op w (p ++ (operator_bytes op ++ q)) (length p) q
    (drop-append_seam p (operator_bytes op ++ q))

-- READ, THEN WRITE
module _ (lim : Limits) (s : List ℕ) (at : ℕ) (z : (read_operator lim s at).refusal ≡ 0) where
  -- reading goes forward and stays within the script
  pub read_next : (at < (read_operator lim s at).next) × ((read_operator lim s at).next ≤ length s)
  read_next =
      let a = accepted lim s at z in
      let b = number_next s at a.code a.from a.code_read in
      let c = operands_next (pattern a.code).kinds s a.from a.numbers (read_operator lim s at).next b.1
      a.read in
      (omega arith, c.1)

  -- by 27 bytes at most: nine numbers of three groups
  pub read_size : (read_operator lim s at).next ≤ at + 27
  read_size =
      let a = accepted lim s at z in
      let b = number_next s at a.code a.from a.code_read in
      let c = operands_next (pattern a.code).kinds s a.from a.numbers (read_operator lim s at).next b.1
      a.read in
      omega (arith, b.2, c.2, eight a.code)

  -- the numbers of an operator that was read are those it travels as
  numbers_read : (a : Accepted lim s at (read_operator lim s at))
      → (length a.numbers ≡ length (pattern a.code).kinds)
      × (numbers_of (operator_is a.code a.numbers) ≡ a.numbers)
  numbers_read a =
      let l = operands_length (pattern a.code).kinds s a.from a.numbers (read_operator lim s at).next
      a.read in
      (l, wires_unwires (pattern a.code).kinds a.numbers l)

  -- THE BYTES READ ARE THE BYTES THAT THE OPERATOR IS WRITTEN AS, some numbers padded
  pub read_pads : PadsAt s at (read_operator lim s at).next (operator_bytes (read_operator lim s at).op)
  unfolding operator_bytes
  read_pads =
      let a = accepted lim s at z in
      let n = numbers_read a in
      rw (a.op_is, n.1)
      (pads_both (number_pads s at a.code a.from a.code_read)
      (operands_pads (pattern a.code).kinds s a.from a.numbers (read_operator lim s at).next a.read))

  -- and what is read can be written
  pub read_writable : Within lim → Writable (read_operator lim s at).op
  read_writable v =
      let a = accepted lim s at z in
      let n = numbers_read a in
      let r = ranges_wider (largests lim) (largests widest) (within_largest lim v) (pattern a.code).kinds
      a.numbers a.ranges in
      rw a.op_is
      (record {
        eight_args = each_length unwire (pattern a.code).kinds a.numbers n.0 ∙ eight a.code;
        not_refused =
            whole (operator_is a.code a.numbers) (record {
              is_code = a.is_code;
              count_is = refl;
              ranges = rw n.1 r;
            });
      })
