-- The ways out of the code that reads an operator, and what `?` hands on.
use Rattle.std.specs.Prelude.{◌≡◌, refl, ◌≢◌, ℕ, ◌<◌, List, [], ℤ, Bool, true, false, Option, Some, None}
use Rattle.std.specs.Prelude.{Result, Ok, Err, IsErrAnd}
use Rattle.std.specs.Option.{ok_or}
use Rattle.std.proofs.Common.{sym, ap, ◌∙◌, arith}
use borrow.Author.Tests.{eq-eqb, ne_eqb}
use Rattle.refusals.specs.declared.Refusal.{Refusal}
use Rattle.refusals.specs.Numbers.{unless}
use Rattle.codec.specs.declared.Limits.{Limits}
use Rattle.codec.specs.declared.operands.Pattern.{Pattern}
use Rattle.script.specs.declared.ReadAnswer.{ReadAnswer}
use Rattle.numbers.specs.Number.{read_number}
use Rattle.codec.specs.Operands.{last_code, row, pattern, largests, in_ranges, unwires}
use Rattle.codec.specs.OperandBytes.{read_operands}
use Rattle.script.specs.Operator.{refused, read_behind, read_operator}
use Rattle.codec.specs.OperandLaws.{no_code}

-- a value is no refusal
no_error : {X A : Type 0} {x : A} {e : Refusal} → ◌≡◌ {A = Result A Refusal} (Err e) (Ok x) → X
no_error i = absurd (let z : ◌≡◌ {A = ℕ} 0 1 = cc in omega arith)

-- what `?` hands on
pub handed : {A : Type 0} {r : Result A Refusal} (e : Refusal) → IsErrAnd r (λ g. g ≡ e) → r ≡ Err e
handed {r = Ok x} e h = absurd h
handed {r = Err g} e h = ap Err h

-- what it hands on where there was no value
pub missed : {A B : Type 0} {r : Result A Refusal} (o : Option B) (e f : Refusal) → IsErrAnd r (λ g. g ≡ e)
    → Err e ≡ ok_or o f → (o ≡ None) × (r ≡ Err f)
missed None e f h i = (refl, let j : e ≡ f = cc in handed e h ∙ ap Err j)
missed (Some x) e f h i = no_error i

-- what it hands on where a test failed
pub tested : {A : Type 0} {r : Result A Refusal} (b : Bool) (e f : Refusal) → IsErrAnd r (λ g. g ≡ e)
    → Err e ≡ unless b f → (b ≡ false) × (r ≡ Err f)
tested false e f h i = (refl, let j : e ≡ f = cc in handed e h ∙ ap Err j)
tested true e f h i = no_error i

-- a test that passed
pub passed : (b : Bool) {x : Unit {0}} (f : Refusal) → Ok x ≡ unless b f → b ≡ true
passed true f i = refl
passed false f i = no_error (sym i)

-- the ways out of the code behind a code that was read
module _ (lim : Limits) (s : List ℕ) (at code from : ℕ) (p : Pattern) (e : p ≡ pattern code) (r : ReadAnswer) where
  pub behind_code : p.count ≡ 0 → r ≡ refused 4 at → r ≡ read_behind lim s at code from
  unfolding read_behind
  behind_code z f = rw (← e, eq-eqb p.count 0 z) f

  module _ (some : p.count ≢ 0) where
    pub behind_cut : read_operands p.kinds s from ≡ None → r ≡ refused 3 at → r ≡ read_behind lim s at code from
    unfolding read_behind
    behind_cut n f = rw (← e, ne_eqb p.count 0 some, n) f

    module _ (ns : List ℕ) (next : ℕ) (n : read_operands p.kinds s from ≡ Some (ns, next)) (most : List ℕ)
        (m : most ≡ largests lim) (t : Bool) (u : t ≡ in_ranges most p.kinds ns) where
      pub behind_range : t ≡ false → r ≡ refused 5 at → r ≡ read_behind lim s at code from
      unfolding read_behind
      behind_range w f = rw (← e, ne_eqb p.count 0 some, n, ← m, ← u, w) f

      pub behind_done : t ≡ true → (a : List ℤ) → a ≡ unwires p.kinds ns
          → r ≡ record { refusal = 0; next = next; op = record { code = code; count = p.count; args = a } }
          → r ≡ read_behind lim s at code from
      unfolding read_behind
      behind_done w a v f = rw (← e, ne_eqb p.count 0 some, n, ← m, ← u, w, ← v) f

-- the ways out of reading an operator
module _ (lim : Limits) (s : List ℕ) (at : ℕ) (r : ReadAnswer) where
  pub operator_bad : read_number s at ≡ None → r ≡ refused 3 at → r ≡ read_operator lim s at
  unfolding read_operator
  operator_bad e f = rw e f

  pub operator_behind : (code next : ℕ) → read_number s at ≡ Some (code, next) → r ≡ read_behind lim s at code next
      → r ≡ read_operator lim s at
  unfolding read_operator
  operator_behind code next e f = rw e f

  pub operator_none : (code next : ℕ) → read_number s at ≡ Some (code, next) → last_code < code
      → r ≡ refused 4 at → r ≡ read_operator lim s at
  operator_none code next e h f =
      operator_behind code next e (behind_code lim s at code next (row []) (no_code code h) r refl f)
