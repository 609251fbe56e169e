-- Reading meets executing: an operator that is read from a script or log is in range of the table, and one that the
-- table accepts, written anywhere, is read from there.
use Rattle.std.specs.Prelude.{◌≡◌, true, List, ◌++◌, ℕ, ◌+◌, length, drop}
use Rattle.std.proofs.Math.Path.{refl}
use Rattle.std.proofs.Common.{sym, ap, ◌∙◌, subst}
use borrow.Author.Tests.{eq-eqb, ne_eqb}
use Rattle.script.specs.declared.Operator.{Operator}
use Rattle.script.specs.declared.ReadAnswer.{ReadAnswer}
use Rattle.codec.specs.Operands.{pattern, widest, largests, in_ranges, unwire}
use Rattle.script.specs.Operator.{numbers_of, operator_bytes, operator_refusal}
use Rattle.codec.specs.Ranges.{Within, within_largest, ranges_wider, eight}
use Rattle.codec.specs.OperandTrip.{operands_length, wires_unwires, each_length}
use Rattle.script.specs.Accepted.{operator_is, accepted, read_accepted}
use Rattle.script.specs.RoundTrip.{Writable, operator_written}
use Rattle.layout.specs.declared.shape.Shape.{Shape}
use Rattle.euler.specs.Exec.{limits, range_refusal, admit_of, refusal_of}
use Rattle.sound_tables.specs.Accepted.{first_zero, Accepted}
use Rattle.runs.specs.Run.{read_at, admit_read, refusal_at}

-- ---- what is read is in range

module _ (sh : Shape) (s : List ℕ) (at : ℕ) (z : (read_at sh s at).refusal ≡ 0) where
  -- an operator that is read has eight operands
  pub read_eight : length (read_at sh s at).op.args ≡ 8
  read_eight =
      let a = accepted (limits sh) s at z in
      let l = operands_length (pattern a.code).kinds s a.from a.numbers _ a.read in
      rw a.op_is (each_length unwire (pattern a.code).kinds a.numbers l ∙ eight a.code)

  -- and they are in range of the table
  pub read_range : range_refusal sh (read_at sh s at).op ≡ 0
  unfolding range_refusal
  read_range =
      let a = accepted (limits sh) s at z in
      let l = operands_length (pattern a.code).kinds s a.from a.numbers _ a.read in
      rw (
        a.op_is,
        wires_unwires (pattern a.code).kinds a.numbers l,
        ne_eqb (pattern a.code).count 0 a.is_code,
        eq-eqb (pattern a.code).count (pattern a.code).count refl,
        a.ranges,
      )

-- an operator of a script or log that is not refused
pub record Taken (sh : Shape) (x s : List ℕ) (at : ℕ) : Type 0 where
  pub read : (read_at sh s at).refusal ≡ 0
  pub eight : length (read_at sh s at).op.args ≡ 8
  pub admitted : refusal_of sh x (read_at sh s at).op ≡ 0

-- what is read and admitted is accepted by the table
pub taken : (sh : Shape) (x s : List ℕ) (at : ℕ) → refusal_at sh x s at ≡ 0 → Taken sh x s at
unfolding admit_read refusal_of
taken sh x s at h =
    let n = first_zero (read_at sh s at).refusal (admit_of sh x (read_at sh s at).op) h in
    record {
      read = n.0;
      eight = read_eight sh s at n.0;
      admitted = rw (read_range sh s at n.0) n.1;
    }

-- ---- what is accepted is read where it was written

-- the two parts of an acceptance
pub in_range_lem : (sh : Shape) (x : List ℕ) (o : Operator) → refusal_of sh x o ≡ 0 → (range_refusal sh o ≡ 0)
    × (admit_of sh x o ≡ 0)
unfolding refusal_of
in_range_lem sh x o h = first_zero (range_refusal sh o) (admit_of sh x o) h

-- two answers of the same operator and the same place behind it
same_answer : {m n : ℕ} {i o : Operator} → m ≡ n → i ≡ o
    → ◌≡◌ {A = ReadAnswer} (record { refusal = 0; next = m; op = i }) (record { refusal = 0; next = n; op = o })
same_answer e f = rw (e, f)

module _ {sh : Shape} {x : List ℕ} (v : Within (limits sh)) (o : Operator) (len : length o.args ≡ 8)
    (b : Accepted sh x o) where
  -- an operator that a table accepts can be written
  pub range_writable : Writable o
  unfolding operator_refusal
  range_writable = record {
    eight_args = len;
    not_refused = rw (
      b.code,
      b.count,
      ranges_wider (largests (limits sh)) (largests widest) (within_largest (limits sh) v) (pattern
          o.code).kinds (numbers_of o) b.range,
    );
  }

  -- written anywhere it is read from there, within the limits of the table, and `next` is the place behind its bytes
  pub written_at : (s : List ℕ) (at : ℕ) (q : List ℕ) → drop at s ≡ operator_bytes o ++ q
      → read_at sh s at ≡ record { refusal = 0; next = at + length (operator_bytes o); op = o }
  written_at s at q d =
      let e = operator_written o range_writable s at q d in
      let a = accepted widest s at (ap (λ (r : ReadAnswer). r.refusal) e) in
      let same : o ≡ operator_is a.code a.numbers = sym (ap (λ (r : ReadAnswer). r.op) e) ∙ a.op_is in
      let l = operands_length (pattern a.code).kinds s a.from a.numbers _ a.read in
      let f = subst (λ (i : Operator). in_ranges (largests (limits sh)) (pattern i.code).kinds (numbers_of i)
      ≡ true) same b.range in
      let g : in_ranges (largests (limits sh)) (pattern a.code).kinds a.numbers ≡ true =
      rw (wires_unwires (pattern a.code).kinds a.numbers l) at f in
      read_accepted (limits sh) s at a.code a.from a.numbers _ a.code_read a.is_code a.read g
      ∙ same_answer (ap (λ (r : ReadAnswer). r.next) e) (sym same)
