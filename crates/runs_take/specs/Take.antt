-- An operator taken in one pass: what the code does, operand by operand. Outcome.antt: it is reading, then admitting.
use Rattle.std.specs.Prelude.{ℕ, ◌+◌, ◌≡◌, Bool, List, [], ◌∷◌, eqb, leb, ℤ, set, Result, Ok, Err}
use Rattle.laws.specs.Bools.{pick}
use Rattle.script.specs.declared.ReadAnswer.{ReadAnswer}
use Rattle.numbers.specs.Number.{read_number, on_num}
use Rattle.codec.specs.Operands.{largests, in_range, unwire}
use Rattle.script.specs.Operator.{read_behind}
use Rattle.layout.specs.declared.shape.Shape.{Shape}
use Rattle.euler.specs.Exec.{operator_by, limits, use_refusal, condition}
use Rattle.runs.specs.Run.{admit_read}
use Rattle.refusals.specs.Numbers.{number_of}
use Rattle.runs_take.specs.declared.take.Taken.{Taken}
use Rattle.runs_take.specs.declared.take.Refused.{Refused}

-- what is refused, 0 for none
abbrev pub refused_in : {A : Type 0} → Result A Refused → ℕ
refused_in (Ok x) = 0
refused_in (Err e) = number_of e.refusal

-- the place to go on from, refused or not
abbrev pub place_in : {A : Type 0} → (A → ℕ) → Result A Refused → ℕ
place_in next (Ok x) = next x
place_in next (Err e) = e.next

abbrev pub next_in : Result ℕ Refused → ℕ
next_in r = place_in (λ n. n) r

abbrev pub taken_next : Result Taken Refused → ℕ
taken_next r = place_in (λ (t : Taken). t.next) r

-- what the pass leaves: its refusal, the place behind the last number read, and the operands
pub record Scan : Type 0 where
  pub refusal : ℕ
  pub next : ℕ
  pub args : List ℤ

abbrev pub scan_is : ℕ → ℕ → List ℤ → Scan
scan_is refusal next args = record { refusal = refusal; next = next; args = args }

-- 5 where a number does not fit its range, else the first 6 or 7; r is that of the numbers before
unfoldable pub joined : ℕ → Bool → ℕ → ℕ
joined r fits used = pick (eqb r 5) 5 (pick fits (pick (eqb r 0) used r) 5)

-- the same with number n of kind k
abbrev pub joined_by : Shape → List ℕ → ℕ → ℕ → ℕ → ℕ
joined_by sh x r k n = joined r (in_range (largests (limits sh)) k n) (use_refusal sh x k n)

-- a number of each kind from place p of script s on, stored as operand i and onward
unfoldable pub scan : Shape → List ℕ → List ℕ → List ℕ → ℕ → ℕ → ℕ → List ℤ → Scan
scan sh x s [] i p r args = scan_is r p args
scan sh x s (k ∷ ks) i p r args =
    on_num (read_number s p)
    (λ n next. scan sh x s ks (i + 1) next (joined_by sh x r k n) (set args i (unwire k n)))
    (scan_is 3 p args)

-- what is told of the operator at a place: its refusal, 0 for none, and the place to go on from
pub record Told : Type 0 where
  pub refusal : ℕ
  pub next : ℕ

abbrev pub told : ℕ → ℕ → Told
told refusal next = record { refusal = refusal; next = next }

abbrev pub told_in : Result ℕ Refused → Told
told_in r = told (refused_in r) (next_in r)

-- the pass done, the condition asked; where the operator was not read, the place that was handed in
unfoldable pub settled : Shape → List ℕ → ℕ → ℕ → Scan → Told
settled sh x at code a =
    pick (eqb a.refusal 0) (pick (condition sh x (operator_by code a.args)) (told 0 a.next) (told 8 a.next))
    (pick (leb a.refusal 5) (told a.refusal at) (told a.refusal a.next))

-- the operator whose code was read at `at`, within the table's capacities
abbrev pub read_from : Shape → List ℕ → ℕ → ℕ → ℕ → ReadAnswer
read_from sh s at code behind = read_behind (limits sh) s at code behind

-- t, the code and the operands tell what was read, and its refusal
abbrev pub Answers : Shape → List ℕ → ReadAnswer → ℕ → Told → List ℤ → Type 0
Answers sh x r code t args =
    (t.refusal ≡ admit_read sh x r) × ((t.next ≡ r.next) × (t.refusal ≡ 0 → operator_by code args ≡ r.op))
