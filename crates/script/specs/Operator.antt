-- An operator is its code and its operands, as numbers one behind the other. Reading one gives 3, 4 or 5; writing one
-- 4, 5, then 9.
use Rattle.std.specs.Prelude.{ℕ, zero, suc, ◌+◌, List, [], ◌∷◌, ◌++◌, length, get_or, set, replicate, ℤ, pos, negsuc}
use Rattle.std.specs.Prelude.{ltb, leb, eqb, Result, Ok, Err}
use Rattle.std.proofs.lemmas.List.Edits.{sets}
use Rattle.laws.specs.Bools.{pick}
use Rattle.refusals.specs.declared.Refusal.{Refusal}
use Rattle.refusals.specs.Numbers.{number_of}
use Rattle.codec.specs.declared.Limits.{Limits}
use Rattle.script.specs.declared.Operator.{Operator}
use Rattle.script.specs.declared.ReadAnswer.{ReadAnswer}
use Rattle.script.specs.declared.WriteAnswer.{WriteAnswer}
use Rattle.numbers.specs.Number.{read_number, groups, on_num}
use Rattle.codec.specs.Operands.{pattern, widest, largests, in_ranges, wires, unwires}
use Rattle.codec.specs.OperandBytes.{on_numbers, read_operands, operands_bytes}

-- an operator with the operands 0
abbrev pub blank_of : ℕ → ℕ → Operator
blank_of code count = record { code = code; count = count; args = replicate 8 (pos 0) }

-- a number that is not negative; 0 for one that is
abbrev pub nat_of : ℤ → ℕ
nat_of (pos n) = n
nat_of (negsuc n) = 0

-- operand i; 0 where there is none
abbrev pub operand_of : Operator → ℕ → ℕ
operand_of op i = nat_of (get_or op.args i (pos 0))

-- the operator with n for operand i
abbrev pub with_number : Operator → ℕ → ℕ → Operator
with_number op i n = record { code = op.code; count = op.count; args = set op.args i (pos n) }

-- READING
-- a refused read answers the place it was given and the blank operator 0
abbrev pub refused : ℕ → ℕ → ReadAnswer
refused refusal at = record { refusal = refusal; next = at; op = blank_of 0 0 }

-- what a read answers: the operator and the place behind it, or a refusal
abbrev pub read_answer : ℕ → Result (Operator × ℕ) Refusal → ReadAnswer
read_answer at (Ok (op, next)) = record { refusal = 0; next = next; op = op }
read_answer at (Err e) = refused (number_of e) at

-- the operator whose code was read at `at`, the operands behind it
unfoldable pub read_behind : Limits → List ℕ → ℕ → ℕ → ℕ → ReadAnswer
read_behind lim s at code behind =
    pick (eqb (pattern code).count 0) (refused 4 at)
    (on_numbers (read_operands (pattern code).kinds s behind)
    (λ ns next.
    pick (in_ranges (largests lim) (pattern code).kinds ns)
    (record {
      refusal = 0;
      next = next;
      op = record { code = code; count = (pattern code).count; args = unwires (pattern code).kinds ns };
    })
    (refused 5 at))
    (refused 3 at))

-- the operator that stands at `at`
unfoldable pub read_operator : Limits → List ℕ → ℕ → ReadAnswer
read_operator lim s at = on_num (read_number s at) (read_behind lim s at) (refused 3 at)

-- WRITING
-- the numbers that an operator's operands travel as
abbrev pub numbers_of : Operator → List ℕ
numbers_of op = wires (pattern op.code).kinds op.args

unfoldable pub operator_bytes : Operator → List ℕ
operator_bytes op = groups op.code ++ operands_bytes (pattern op.code).kinds (numbers_of op)

-- 4: no such code; 5: another count of operands, an operand out of range, or an unused one that is not 0
unfoldable pub operator_refusal : Operator → ℕ
operator_refusal op =
    pick (eqb (pattern op.code).count 0) 4
    (pick (eqb op.count (pattern op.code).count)
    (pick (in_ranges (largests widest) (pattern op.code).kinds (numbers_of op)) 0 5) 5)

-- the bytes at `at`, if they fit; else nothing changes
unfoldable pub put_bytes : List ℕ → ℕ → List ℕ → List ℕ
put_bytes out at bytes = pick (leb (at + length bytes) (length out)) (sets out at bytes) out

-- what writing leaves: the answer and the destination
pub record Written : Type 0 where
  pub answer : WriteAnswer
  pub out : List ℕ

abbrev pub written : WriteAnswer → List ℕ → Written
written a out = record { answer = a; out = out }

-- what a write answers: how many bytes it took, or a refusal
abbrev pub write_answer : Result ℕ Refusal → WriteAnswer
write_answer (Ok n) = record { refusal = 0; length = n }
write_answer (Err e) = record { refusal = number_of e; length = 0 }

-- a refused write answers the length 0
abbrev pub not_written : ℕ → List ℕ → Written
not_written refusal out = written (record { refusal = refusal; length = 0 }) out

-- the operator at the front of `out`
unfoldable pub write_operator : Operator → List ℕ → Written
write_operator op out =
    pick (eqb (operator_refusal op) 0)
    (pick (leb (length (operator_bytes op)) (length out))
    (written (record { refusal = 0; length = length (operator_bytes op) }) (sets out 0 (operator_bytes op)))
    (not_written 9 out))
    (not_written (operator_refusal op) out)

-- WHOLE SCRIPTS
-- the operators, one behind the other
unfoldable pub write_script : List Operator → List ℕ
write_script [] = []
write_script (op ∷ ops) = operator_bytes op ++ write_script ops

-- the operators read up to the end or the first refusal, and that refusal
pub record Script : Type 0 where
  pub refusal : ℕ
  pub operators : List Operator

abbrev pub script_is : ℕ → List Operator → Script
script_is refusal ops = record { refusal = refusal; operators = ops }

abbrev pub before : Operator → Script → Script
before op rest = script_is rest.refusal (op ∷ rest.operators)

-- at most n operators from `at`; there are no more than bytes
unfoldable pub read_from : ℕ → List ℕ → ℕ → Script
read_from zero s at = script_is 0 []
read_from (suc n) s at =
    pick (ltb at (length s))
    (pick (eqb (read_operator widest s at).refusal 0)
    (before (read_operator widest s at).op (read_from n s (read_operator widest s at).next))
    (script_is (read_operator widest s at).refusal []))
    (script_is 0 [])

unfoldable pub read_script : List ℕ → Script
read_script s = read_from (length s) s 0
