-- The ways through one operator of a run, over plain variables: what stands at a place of the script is refused; there
-- is no room for its inverse in front of the log's start; it is carried out.
use Rattle.std.specs.Prelude.{◌≡◌, refl, ◌≢◌, Bool, true, false, List, ℕ, ◌-◌, ◌≤◌, leb, ℤ, length, Result, Ok, Err}
use Rattle.std.proofs.Common.{sym, ap, ◌∙◌, arith, le-leb, leb-true}
use Rattle.laws.specs.Bools.{split, eqb_same, eqb_other}
use Rattle.script.specs.declared.Operator.{Operator}
use Rattle.script.specs.Operator.{operator_bytes, put_bytes}
use Rattle.script.specs.OperatorLaws.{operator_bound}
use Rattle.layout.specs.declared.shape.Shape.{Shape}
use Rattle.euler.specs.Exec.{operator_by, admit_of, links_after, points_after, inverse}
use Rattle.runs.specs.Run.{state, read_at, admit_read, refusal_at, inverse_bytes, stepped}
use Rattle.runs.specs.Run.{carry_refusal, carry_of, step_is, step_of}
use Rattle.runs_take.specs.declared.take.Refused.{Refused}
use Rattle.runs_take.specs.Take.{place_in}
use Rattle.runs_steps.specs.declared.steps.Step.{Step}
use Rattle.promises.specs.Reading.{taken, in_range_lem}

-- the place behind the operator that was read, done or refused
abbrev pub step_next : Result Step Refused → ℕ
step_next r = place_in (λ (s : Step). s.next) r

-- where the log's live part begins after a step from `start`: a refused one leaves it
abbrev pub step_start : ℕ → Result Step Refused → ℕ
step_start start (Ok s) = s.start
step_start start (Err e) = start

-- how many operands its record says makes no difference to the inverse
pub inverse_by : (sh : Shape) (x : List ℕ) (p : List ℤ) (code count : ℕ) (args : List ℤ)
    → inverse sh x p (record { code = code; count = count; args = args }) ≡ inverse sh x p (operator_by code args)
unfolding inverse
inverse_by sh x p code count args = refl

-- whether bytes fit, where none are more than 27, and by their number
pub fits_far : (op : Operator) (end : ℕ) → 27 ≤ end → true ≡ leb (length (operator_bytes op)) end
fits_far op end h = sym (le-leb (length (operator_bytes op)) end (omega (arith, operator_bound op)))

-- what fits is no longer than the place in front of `end`
pub fits_room : (op : Operator) (end : ℕ) (b : Bool) → b ≡ leb (length (operator_bytes op)) end → b ≡ true
    → length (operator_bytes op) ≤ end
fits_room op end b e t = leb-true (length (operator_bytes op)) end (sym e ∙ t)

module _ (sh : Shape) (x : List ℕ) (p : List ℤ) (log : List ℕ) (start : ℕ) (s : List ℕ) (at : ℕ)
    (r : ℕ) (er : r ≡ refusal_at sh x s at) (n : ℕ) (en : n ≡ (read_at sh s at).next) where
  -- 3 to 8
  pub step_refused : r ≢ 0 → step_is r n (state x p log start) ≡ step_of sh (state x p log start) s at
  unfolding step_of admit_read carry_of carry_refusal
  step_refused z = split (read_at sh s at).refusal 0
      (λ e.
      let q : r ≡ admit_of sh x (read_at sh s at).op = rw (eqb_same e) at er in
      rw (en, eqb_same e, ← q, eqb_other z, eqb_other z))
      (λ e. let q : r ≡ (read_at sh s at).refusal = rw (eqb_other e) at er in rw (en, eqb_other e, q))

  module _ (z : r ≡ 0) (o : Operator) (eo : o ≡ (read_at sh s at).op) (i : Operator) (ei : i ≡ inverse sh x p o) where
    -- it was read, and its table admits it
    was_read : (read_at sh s at).refusal ≡ 0
    was_read = (taken sh x s at (sym er ∙ z)).read

    was_admitted : admit_of sh x (read_at sh s at).op ≡ 0
    was_admitted = (in_range_lem sh x (read_at sh s at).op (taken sh x s at (sym er ∙ z)).admitted).1

    -- its inverse
    undoes : inverse sh x p (read_at sh s at).op ≡ i
    undoes = sym (ei ∙ ap (inverse sh x p) eo)

    -- 9
    pub step_full : leb (length (operator_bytes i)) start ≡ false
        → step_is 9 n (state x p log start) ≡ step_of sh (state x p log start) s at
    unfolding step_of carry_of carry_refusal inverse_bytes
    step_full h = rw (en, eqb_same was_read, eqb_same was_admitted, undoes, h)

    -- carried out
    pub step_done : leb (length (operator_bytes i)) start ≡ true
        → (y : List ℕ) → y ≡ links_after sh x o → (q : List ℤ) → q ≡ points_after sh x p o
        → (b : ℕ) → b ≡ start - length (operator_bytes i)
        → (m : List ℕ) → m ≡ put_bytes log (start - length (operator_bytes i)) (operator_bytes i)
        → step_is 0 n (state y q m b) ≡ step_of sh (state x p log start) s at
    unfolding step_of carry_of carry_refusal stepped inverse_bytes
    step_done h y ey q eq b eb m em =
        rw (en, eqb_same was_read, eqb_same was_admitted, undoes, h, ← eo, ey, eq, eb, em)
