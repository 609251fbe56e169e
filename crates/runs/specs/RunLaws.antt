-- The ways through an operator carried out, a step and a run, one law each, over plain variables.
use Rattle.std.specs.Prelude.{◌≡◌, refl, ◌≢◌, List, eqb, ℤ, length}
use Rattle.std.proofs.Common.{sym, ap, ◌∙◌, ⊎_elim, arith}
use Prim.Native.Nat.{ℕ, zero, suc, ◌+◌, ◌-◌, ◌≤◌, ◌<◌}
use borrow.Author.Tests.{lt-ltb, le-ltb, le-leb, eq-eqb, ne_eqb}
use Rattle.laws.specs.Bools.{pick, same?, split, eqb_same, eqb_other}
use Rattle.script.specs.declared.Operator.{Operator}
use Rattle.script.specs.declared.ReadAnswer.{ReadAnswer}
use Rattle.layout.specs.declared.shape.Shape.{Shape}
use Rattle.layout.specs.Layout.{shape_of}
use Rattle.euler.specs.Exec.{admit_of}
use Rattle.layout.specs.Small.{Small}
use Rattle.table.specs.declared.check.CheckAnswer.{CheckAnswer}
use Rattle.table.specs.Check.{check_of}
use Rattle.table.specs.CheckLaws.{checked_fits}
use Rattle.table.specs.SizesLaws.{fits_small}
use Rattle.runs.specs.Clauses.{entry_beyond, entry_passed}
use Rattle.runs.specs.Run.{State, state, read_at, admit_read, stepped}
use Rattle.runs.specs.Run.{carry_refusal, carried_is, carry_of, run_refusal, Stepped, step_is, step_of}
use Rattle.runs.specs.Run.{Ran, ran, run_from, entry}

-- what was read is admitted where its operator is
module _ (sh : Shape) (x : List ℕ) (r : ReadAnswer) where
  pub read_admitted : r.refusal ≡ 0 → (a : ℕ) → a ≡ admit_of sh x r.op → a ≡ admit_read sh x r
  unfolding admit_read
  read_admitted z a e = rw (eq-eqb r.refusal 0 z) e

-- what was not refused is carried out, and what was leaves the state as it is
module _ (sh : Shape) (t : State) (o : Operator) where
  pub carry_taken : carry_refusal sh t o ≡ 0 → carry_of sh t o ≡ carried_is 0 (stepped sh t o)
  unfolding carry_of
  carry_taken z = rw (eqb_same z)

  pub carry_kept : carry_refusal sh t o ≢ 0 → carry_of sh t o ≡ carried_is (carry_refusal sh t o) t
  unfolding carry_of
  carry_kept z = rw (eqb_other z)

-- a step carried out, and one refused
module _ (sh : Shape) (t : State) (s : List ℕ) (at : ℕ) where
  -- where it is not refused, its operator was read
  pub run_read : run_refusal sh t s at ≡ 0 → (read_at sh s at).refusal ≡ 0
  unfolding run_refusal
  run_read h = split (read_at sh s at).refusal 0 (λ z. z) (λ z. absurd (z (rw (eqb_other z) at h)))

  step_taken : run_refusal sh t s at ≡ 0
      → step_of sh t s at ≡ step_is 0 (read_at sh s at).next (stepped sh t (read_at sh s at).op)
  unfolding step_of run_refusal
  step_taken h = let e = eqb_same (run_read h) in rw (e, carry_taken sh t (read_at sh s at).op (rw e at h))

  step_kept : run_refusal sh t s at ≢ 0 → step_of sh t s at ≡ step_is (run_refusal sh t s at) (read_at sh s at).next t
  unfolding step_of run_refusal
  step_kept h = split (read_at sh s at).refusal 0
      (λ z. let e = eqb_same z in rw (e, carry_kept sh t (read_at sh s at).op (rw e at h)))
      (λ z. rw (eqb_other z))

  module _ (q : Stepped) (e : q ≡ step_of sh t s at) where
    -- a step answers 0 just where it is not refused
    step_zero : q.refusal ≡ 0 → run_refusal sh t s at ≡ 0
    step_zero z = ⊎_elim (λ r. r) (λ r. sym (ap (λ u. u.refusal) (e ∙ step_kept r)) ∙ z)
        (same? (run_refusal sh t s at) 0)

    step_some : q.refusal ≢ 0 → run_refusal sh t s at ≢ 0
    step_some z r = z (ap (λ u. u.refusal) (e ∙ step_taken r))

-- past the script's end nothing is done
pub run_ended : (sh : Shape) (s : List ℕ) (n at done : ℕ) (t : State) → length s ≤ at → run_from n sh s at done t
    ≡ ran 0 done at t
unfolding run_from
run_ended sh s zero at done t h = refl
run_ended sh s (suc n) at done t h = rw (le-ltb at (length s) h)

-- a run: what is left of it is the whole; as it ends with the script or with what is due, stops at a refusal, goes on
module _ (sh : Shape) (s : List ℕ) (n at done : ℕ) (t : State) (whole : Ran) (rest : run_from n sh s at done t
    ≡ whole) where
  pub run_end : length s ≤ at → ran 0 done at t ≡ whole
  run_end h = sym (run_ended sh s n at done t h) ∙ rest

  pub run_over : n ≤ 0 → ran 0 done at t ≡ whole
  unfolding run_from
  run_over h = let z : n ≡ 0 = omega (arith, h) in rw z at rest

  module _ (h : at < length s) (m : 0 < n) (q : Stepped) (e : q ≡ step_of sh t s at) where
    turn : pick (eqb (run_refusal sh t s at) 0) (run_from (n - 1) sh s (read_at sh s at).next (done + 1)
        (stepped sh t (read_at sh s at).op)) (ran (run_refusal sh t s at) done at t) ≡ whole
    unfolding run_from
    turn = let k : n ≡ suc (n - 1) = omega (arith, m) in rw (k, lt-ltb at (length s) h) at rest

    pub run_stop : q.refusal ≢ 0 → ran q.refusal done at q.state ≡ whole
    run_stop z =
        let r = step_some sh t s at q e z in
        rw (e ∙ step_kept sh t s at r) (rw (ne_eqb (run_refusal sh t s at) 0 r) at turn)

    pub run_turn : q.refusal ≡ 0 → (k : ℕ) → k ≡ n - 1 → run_from k sh s q.next (done + 1) q.state ≡ whole
    run_turn z k ek =
        let r = step_zero sh t s at q e z in
        rw (ek, e ∙ step_taken sh t s at r) (rw (eq-eqb (run_refusal sh t s at) 0 r) at turn)

-- the way in: the start is beyond the log, or the check answers
module _ (x : List ℕ) (p : List ℤ) (log : List ℕ) (start : ℕ) where
  -- the state as the code holds it
  abbrev held : State
  held = state x p log start

  pub enter_beyond : length log < start → record { refusal = 1; rule = 0 } ≡ entry (state x p log start)
  enter_beyond h = sym (entry_beyond held h)

  pub enter_checked : start ≤ length log → (a : CheckAnswer) → a ≡ check_of x p → a ≡ entry (state x p log start)
  unfolding entry
  enter_checked h a e = rw (le-leb start (length log) h) e

  module _ (a : CheckAnswer) (e : a ≡ entry (state x p log start)) where
    module _ (z : a.refusal ≡ 0) (sh : Shape) (h : sh ≡ shape_of x) where
      -- it is let in
      let_in : (entry (state x p log start)).refusal ≡ 0
      let_in = sym (ap (λ c. c.refusal) e) ∙ z

      pub entered_small : Small sh
      entered_small = rw h (fits_small x p (checked_fits x p (entry_passed held let_in).1))
