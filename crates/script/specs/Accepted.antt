-- What an accepted operator says of the bytes: the code, the numbers after it, their ranges; and that such bytes are
-- accepted. From it `RoundTrip` has that reading goes forward and stays within the script.
use Rattle.std.specs.Prelude.{◌≡◌, ℕ, ◌<◌, Bool, true, false, List, eqb}
use Rattle.std.specs.Prelude.{Option, Some, None}
use Rattle.std.proofs.Math.Path.{refl}
use Rattle.std.proofs.Math.Logic.{⊎_elim}
use Rattle.std.proofs.Common.{arith}
use borrow.Author.Tests.{eqb-false, ne_eqb}
use Rattle.laws.specs.Bools.{pick, ask}
use Rattle.codec.specs.declared.Limits.{Limits}
use Rattle.script.specs.declared.Operator.{Operator}
use Rattle.script.specs.declared.ReadAnswer.{ReadAnswer}
use Rattle.numbers.specs.Number.{read_number, on_num}
use Rattle.codec.specs.Operands.{pattern, largests, in_ranges, unwires}
use Rattle.codec.specs.OperandBytes.{on_numbers, read_operands}
use Rattle.script.specs.Operator.{refused, read_behind, read_operator}

-- the operator that these numbers are
abbrev pub operator_is : ℕ → List ℕ → Operator
operator_is code ns = record { code = code; count = (pattern code).count; args = unwires (pattern code).kinds ns }

pub record Accepted (lim : Limits) (s : List ℕ) (at : ℕ) (r : ReadAnswer) : Type 0 where
  pub code : ℕ
  pub from : ℕ
  pub numbers : List ℕ
  pub code_read : read_number s at ≡ Some (code, from)
  pub is_code : (pattern code).count ≡ 0 → ⊥
  pub read : read_operands (pattern code).kinds s from ≡ Some (numbers, r.next)
  pub ranges : in_ranges (largests lim) (pattern code).kinds numbers ≡ true
  pub op_is : r.op ≡ operator_is code numbers

-- a refusal that is none of a refused read's
not_0 : {X : Type 0} (n at : ℕ) → 0 < n → (refused n at).refusal ≡ 0 → X
not_0 n at h e = absurd (omega arith)

module _ (lim : Limits) (s : List ℕ) (at : ℕ) where
  ranged : (code from : ℕ) (ns : List ℕ) (next : ℕ) (t : Bool) (r : ReadAnswer) → read_number s at ≡ Some (code, from)
      → ((pattern code).count ≡ 0 → ⊥)
      → read_operands (pattern code).kinds s from ≡ Some (ns, next)
      → in_ranges (largests lim) (pattern code).kinds ns ≡ t
      → r ≡ pick t (record { refusal = 0; next = next; op = operator_is code ns }) (refused 5 at) → r.refusal ≡ 0
      → Accepted lim s at r
  ranged code from ns next true r a b d e f z =
      record {
        code = code;
        from = from;
        numbers = ns;
        code_read = a;
        is_code = b;
        read = rw f d;
        ranges = e;
        op_is = rw f;
      }
  ranged code from ns next false r a b d e f z = not_0 5 at (omega arith) (rw f at z)

  numbered : (code from : ℕ) (x : Option (List ℕ × ℕ)) (r : ReadAnswer) → read_number s at ≡ Some (code, from)
      → ((pattern code).count ≡ 0 → ⊥)
      → read_operands (pattern code).kinds s from ≡ x
      → r ≡ on_numbers x (λ ns next. pick (in_ranges (largests lim) (pattern code).kinds ns)
      (record { refusal = 0; next = next; op = operator_is code ns }) (refused 5 at)) (refused 3 at)
      → r.refusal ≡ 0 → Accepted lim s at r
  numbered code from (Some (ns, next)) r a b d e z =
      ranged code from ns next (in_ranges (largests lim) (pattern code).kinds ns) r a b d refl e z
  numbered code from None r a b d e z = not_0 3 at (omega arith) (rw e at z)

  coded : (code from : ℕ) (r : ReadAnswer) → read_number s at ≡ Some (code, from) → r ≡ read_behind lim s at code from
      → r.refusal ≡ 0 → Accepted lim s at r
  unfolding read_behind
  coded code from r a e z =
      ⊎_elim (λ t. not_0 4 at (omega arith) (rw (rw t at e) at z))
      (λ t. numbered code from (read_operands (pattern code).kinds s from) r a (eqb-false _ 0 t) refl (rw t at e) z)
      (ask (eqb (pattern code).count 0))

  begun : (x : Option (ℕ × ℕ)) (r : ReadAnswer) → read_number s at ≡ x
      → r ≡ on_num x (read_behind lim s at) (refused 3 at)
      → r.refusal ≡ 0 → Accepted lim s at r
  begun (Some (code, from)) r a e z = coded code from r a e z
  begun None r a e z = not_0 3 at (omega arith) (rw e at z)

  pub accepted : (read_operator lim s at).refusal ≡ 0 → Accepted lim s at (read_operator lim s at)
  unfolding read_operator
  accepted z = begun (read_number s at) (read_operator lim s at) refl refl z

  -- and back: what is so is read
  pub read_accepted : (code from : ℕ) (ns : List ℕ) (next : ℕ) → read_number s at ≡ Some (code, from)
      → ((pattern code).count ≡ 0 → ⊥)
      → read_operands (pattern code).kinds s from ≡ Some (ns, next) → in_ranges (largests lim) (pattern code).kinds ns
      ≡ true
      → read_operator lim s at ≡ record { refusal = 0; next = next; op = operator_is code ns }
  unfolding read_operator read_behind
  read_accepted code from ns next a b d e = rw (a, ne_eqb (pattern code).count 0 b, d, e)
