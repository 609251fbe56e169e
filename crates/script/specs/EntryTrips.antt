-- The round trips of the entry points' own definitions, for one operator and for a whole script: `read_operator`
-- without
-- a table and `write_operator`, which the contracts of `zoghvari_read` and `zoghvari_write` (crate `kernel`) cite.
use Rattle.std.specs.Prelude.{◌≡◌, refl, Bool, true, false, List, [], ◌∷◌, ◌++◌, ℕ, zero, suc, ◌+◌, ◌≤◌, ◌<◌, eqb}
use Rattle.std.specs.Prelude.{ltb, length, take, drop}
use Rattle.std.proofs.Common.{◌∙◌, zero-add, arith, lit≤, le-leb, eq-eqb, eqb-true}
use Rattle.std.proofs.lemmas.List.Edits.{sets-eq}
use Rattle.std.proofs.Math.Seq.{take-append_seam}
use Rattle.laws.specs.Bools.{pick}
use Rattle.script.specs.declared.Operator.{Operator}
use Rattle.script.specs.declared.ReadAnswer.{ReadAnswer}
use Rattle.codec.specs.Operands.{widest}
use Rattle.script.specs.Operator.{read_operator, operator_bytes, operator_refusal, Written, written}
use Rattle.script.specs.Operator.{write_operator, write_script, Script, script_is, before, read_from, read_script}
use Rattle.numbers.specs.NumberTrip.{Bytes}
use Rattle.numbers.specs.Padded.{shorten, shortest}
use Rattle.numbers.specs.PaddedLaws.{shorten_whole, shortest_same, shorten_shortest}
use Rattle.codec.specs.Ranges.{Within}
use Rattle.script.specs.RoundTrip.{Writable, read_next, read_size, read_pads, read_writable}
use Rattle.script.specs.Scripts.{AllWritable, operator_size, script_pads, written_script}

-- ---- what writing leaves where it does not refuse

-- bytes at the front of a destination, the rest of it as it was
abbrev pub in_front : List ℕ → List ℕ → Written
in_front bytes out = written (record { refusal = 0; length = length bytes }) (bytes ++ drop (length bytes) out)

-- the operator's bytes in front
pub write_fits : (o : Operator) (out : List ℕ) → operator_refusal o ≡ 0 → length (operator_bytes o) ≤ length out
    → write_operator o out ≡ in_front (operator_bytes o) out
unfolding write_operator
write_fits o out z h =
    let n = zero-add (length (operator_bytes o)) in
    let k : 0 + length (operator_bytes o) ≤ length out = omega arith in
    rw (
      eq-eqb (operator_refusal o) 0 z,
      le-leb (length (operator_bytes o)) (length out) h,
      sets-eq (operator_bytes o) out 0 k,
      n,
    )

-- READ, THEN WRITE: an operator that was read, from at most 27 bytes, those from `at` up to the place behind it, is
-- written as the shortest form of these bytes, at most 19, and of the destination nothing else changes. (Where they are
-- in shortest form, these are the very bytes: `shortest_same`.)
pub record Copied (s : List ℕ) (at : ℕ) (r : ReadAnswer) : Type 0 where
  -- the bytes that it was read from
  pub bytes : List ℕ
  pub next : r.next ≡ at + length bytes
  pub inside : (at < r.next) × (r.next ≤ length s)
  pub there : drop at s ≡ bytes ++ drop r.next s
  pub most_read : length bytes ≤ 27
  pub most_written : length (shorten bytes) ≤ 19
  -- written anywhere where it fits
  pub back : (out : List ℕ) → length (shorten bytes) ≤ length out → write_operator r.op out
      ≡ in_front (shorten bytes) out

-- the limits that hold without a table are the widest
within_widest : Within widest
within_widest = record { solids = lit≤ tt; faces = lit≤ tt; loops = lit≤ tt; edges = lit≤ tt; vertices = lit≤ tt }

-- every operator that is read without a table
pub read_write : (s : List ℕ) (at : ℕ) → (read_operator widest s at).refusal ≡ 0
    → Copied s at (read_operator widest s at)
read_write s at z =
    let o = (read_operator widest s at).op in
    let w = read_writable widest s at z within_widest in
    let x = read_pads widest s at z in
    let e = shorten_whole x.pads in
    record {
      bytes = x.bytes;
      next = x.behind;
      inside = read_next widest s at z;
      there = x.there;
      most_read = omega (arith, x.behind, read_size widest s at z);
      most_written = rw e (operator_size o w).1;
      back = λ out h. rw e (write_fits o out w.not_refused (rw e at h));
    }

-- ---- a whole script

-- the bytes that writing an operator puts at the front of a destination
abbrev pub written_to : List ℕ → Operator → List ℕ
written_to out o = take (write_operator o out).answer.length (write_operator o out).out

-- operators written one behind the other, each by way of a destination
unfoldable pub written_all : List ℕ → List Operator → List ℕ
written_all out [] = []
written_all out (o ∷ ops) = written_to out o ++ written_all out ops

-- they are the script of the operators
written_all_lem : (out : List ℕ) → 19 ≤ length out → (ops : List Operator) → AllWritable ops
    → written_all out ops ≡ write_script ops
unfolding written_all write_script
written_all_lem out h [] w = refl
written_all_lem out h (o ∷ ops) w =
    let n = operator_size o w.0 in
    rw (
      write_fits o out w.0.not_refused (omega (arith, n)),
      take-append_seam (operator_bytes o) (drop (length (operator_bytes o)) out),
      written_all_lem out h ops w.1,
    )

-- one operator more, by its tests
more_writable : (a b : Bool) (o : Operator) (r : ℕ) (rest : Script) → (b ≡ true → Writable o)
    → AllWritable rest.operators
    → AllWritable (pick a (pick b (before o rest) (script_is r [])) (script_is 0 [])).operators
more_writable true true o r rest f w = (f refl, w)
more_writable true false o r rest f w = tt
more_writable false b o r rest f w = tt

-- what is read can be written
all_writable : (n : ℕ) (s : List ℕ) (at : ℕ) → AllWritable (read_from n s at).operators
unfolding read_from
all_writable zero s at = tt
all_writable (suc n) s at =
    more_writable (ltb at (length s)) (eqb (read_operator widest s at).refusal 0) _ _ _
    (λ z. read_writable widest s at (eqb-true _ 0 z) within_widest)
    (all_writable n s (read_operator widest s at).next)

-- A SCRIPT READ AND WRITTEN COMES BACK IN ITS SHORTEST FORM: read operator by operator to its end, each written by way
-- of any destination of 19 bytes or more, one behind the other
pub script_shortened : (s : List ℕ) → (read_script s).refusal ≡ 0 → (out : List ℕ) → 19 ≤ length out
    → written_all out (read_script s).operators ≡ shorten s
unfolding read_script
script_shortened s z out h =
    written_all_lem out h (read_script s).operators (all_writable (length s) s 0) ∙ written_script s z

-- A SHORTEST ONE BYTE FOR BYTE
pub script_copied : (s : List ℕ) → Bytes s → shortest s ≡ true → (read_script s).refusal ≡ 0 → (out : List ℕ)
    → 19 ≤ length out → written_all out (read_script s).operators ≡ s
script_copied s b e z out h = script_shortened s z out h ∙ shortest_same s b e

-- and the shortest form of a script that was read is shortest
pub script_shortest : (s : List ℕ) → (read_script s).refusal ≡ 0 → shortest (shorten s) ≡ true
script_shortest s z = shorten_shortest (script_pads s z)
