-- The ways out of the call.
use Rattle.std.specs.Prelude.{◌≡◌, ◌≢◌, List, ℕ, ℤ, take, Result, Ok, Err}
use Rattle.std.proofs.Math.Path.{refl, ap}
use Rattle.std.proofs.Common.{sym, ◌∙◌, subst, SFits, to_z-of_z}
use Rattle.std.specs.Int.{w32}
use Rattle.laws.specs.Bools.{eqb_same, eqb_other}
use Rattle.script.specs.declared.Operator.{Operator}
use Rattle.script.specs.Operator.{write_script}
use Rattle.refusals.specs.declared.Refusal.{Refusal}
use Rattle.refusals.specs.Numbers.{number_of, refusal_in}
use Rattle.refusals.specs.UnlessLaws.{refused_some}
use Rattle.layout.specs.declared.shape.Shape.{Shape}
use Rattle.layout.specs.Layout.{shape_of}
use Rattle.table.specs.declared.check.CheckAnswer.{CheckAnswer}
use Rattle.runs.specs.Run.{state, Leaves, leaves, entry}
use Rattle.sessions.specs.declared.Session.{Session}
use Rattle.sessions.specs.declared.Left.{Left}
use Rattle.runs.specs.declared.answers.RunAnswer.{RunAnswer}
use Rattle.sessions.specs.Session.{session_run, Runs}
use Rattle.chains.specs.declared.DoneAnswer.{DoneAnswer}
use Rattle.chains.specs.Whole.{answered, whole_of, not_done, done_by}
use Rattle.sweeps.specs.declared.Vector.{Vector}
use Rattle.sweep_reads.specs.MovedLaws.{back}
use Rattle.sweeps.specs.Sweep.{vector, sweep_ops, sweep_refusal}
use Rattle.sweeps.specs.Swept.{sweep_of}
use Rattle.sweep_call.specs.declared.plan.Script.{Script}
use Rattle.sweep_call.specs.PlanLaws.{Planned}

module _ (x : List ℕ) (p : List ℤ) (log : List ℕ) (redo : ℕ) (s : Session) (refusal : ℕ) (os : List Operator)
    (r : CheckAnswer) (e : r ≡ entry (state x p log s.log)) where
  -- 1 or 2
  pub not_entered : r.refusal ≢ 0 → not_done r.refusal r.rule x p log s ≡ whole_of x p log redo s refusal os
  unfolding whole_of
  not_entered n =
      let m : (entry (state x p log s.log)).refusal ≢ 0 = λ z. n (ap (λ (a : CheckAnswer). a.refusal) e ∙ z) in
      rw (eqb_other m, ← e) refl

  module _ (ok : r.refusal ≡ 0) where
    -- the call's own refusal
    pub not_done_lem : refusal ≢ 0 → not_done refusal 0 x p log s ≡ whole_of x p log redo s refusal os
    unfolding whole_of
    not_done_lem n =
        let m : (entry (state x p log s.log)).refusal ≡ 0 = ap (λ (a : CheckAnswer). a.refusal) (sym e) ∙ ok in
        rw (eqb_same m, eqb_other n) refl

    -- the run
    pub all_done : refusal ≡ 0 → (w : Leaves (Left RunAnswer)) → w ≡ session_run x p log redo s (write_script os)
        → done_by w ≡ whole_of x p log redo s refusal os
    unfolding whole_of
    all_done n w q =
        let m : (entry (state x p log s.log)).refusal ≡ 0 = ap (λ (a : CheckAnswer). a.refusal) (sym e) ∙ ok in
        rw (eqb_same m, eqb_same n, q) refl

-- ---- the returns of the code; u is the vector as the callees get it

pub vector_back : {a b c : ℤ} → SFits w32 a → SFits w32 b → SFits w32 c
    → vector (back a) (back b) (back c) ≡ vector a b c
vector_back f g h = rw (to_z-of_z f, to_z-of_z g, to_z-of_z h) refl

module _ (x : List ℕ) (p : List ℤ) (log : List ℕ) (redo : ℕ) (s : Session) (f : ℕ) (v : Vector) (a : CheckAnswer)
    (e : a ≡ entry (state x p log s.log)) (r : Left DoneAnswer) where
  -- 1 or 2
  pub call_not_entered : a.refusal ≢ 0 → r ≡ answered a.refusal a.rule 0 s
      → leaves r x p log ≡ sweep_of x p log redo s f v
  call_not_entered n q = rw q (not_entered x p log redo s _ _ a e n)

  module _ (ok : a.refusal ≡ 0) (sh : Shape) (h : sh ≡ shape_of x) (u : Vector) (uv : u ≡ v) (out : List ℕ)
      (w : Result Script Refusal) (i₀ : Planned sh x p s.log f u out w) where
    i : Planned (shape_of x) x p s.log f v out w
    i = subst (λ t. Planned t x p s.log f v out w) h (subst (λ t. Planned sh x p s.log f t out w) uv i₀)

    -- 5, 6, 14, 10 or 9
    pub call_refused : (d : Refusal) (n : ℕ) → w ≡ Err d → n ≡ number_of d → r ≡ answered n 0 0 s
        → leaves r x p log ≡ sweep_of x p log redo s f v
    call_refused d n c m q =
        let k : n ≡ sweep_refusal (shape_of x) x p s.log f v = m ∙ sym (ap refusal_in c) ∙ i.refusal in
        rw (q, k) (not_done_lem x p log redo s (sweep_refusal (shape_of x) x p s.log f v)
        (sweep_ops (shape_of x) x p f v) a e ok (λ z. refused_some d (sym m ∙ k ∙ z)))

    -- the run
    pub call_done : (t : Script) → w ≡ Ok t → (m : Left RunAnswer) (x' : List ℕ) (p' : List ℤ) (log' : List ℕ)
        → Runs x p log redo s (take t.length out) m x' p' log'
        → r ≡ answered m.answer.refusal m.answer.rule m.answer.done m.session
        → leaves r x' p' log' ≡ sweep_of x p log redo s f v
    call_done t z m x' p' log' ran q =
        rw q (all_done x p log redo s (sweep_refusal (shape_of x) x p s.log f v) (sweep_ops (shape_of x) x p f v) a e ok
        (sym i.refusal ∙ ap refusal_in z) (leaves m x' p' log')
        (ran ∙ ap (session_run x p log redo s) (i.script t z).is))
