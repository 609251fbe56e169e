-- A CALL THAT RUNS A LIST OF OPERATORS, on all that the editor lends: 1, or 2 with the rule; then the call's own
-- refusal, looked for before anything is done; then the run of the list's script. Where that run accepts the list whole
-- whenever the refusal is 0, the call is done whole or not at all.
use Rattle.std.specs.Prelude.{◌≡◌, ◌≢◌, ◌⊎◌, ℕ, ◌*◌, ◌≤◌, eqb, ℤ, length, drop}
use Rattle.std.proofs.Math.Path.{refl, subst}
use Rattle.std.proofs.Common.{sym, ◌∙◌, arith}
use Rattle.std.proofs.Math.Logic.{⊎_elim}
use mathlib.Core.List.{List, [], ◌∷◌}
use Rattle.std.proofs.Math.Nat.{add-zero}
use Rattle.laws.specs.Bools.{pick, eqb_same, eqb_other, split}
use Rattle.script.specs.declared.Operator.{Operator}
use Rattle.script.specs.Operator.{write_script}
use Rattle.runs.specs.Run.{state, Leaves, leaves, entry, run_of}
use Rattle.runs.specs.Clauses.{entry_passed}
use Rattle.sessions.specs.declared.Session.{Session}
use Rattle.sessions.specs.declared.Left.{Left}
use Rattle.chains.specs.declared.DoneAnswer.{DoneAnswer}
use Rattle.runs.specs.declared.answers.RunAnswer.{RunAnswer}
use Rattle.sessions.specs.Session.{session_run}
use Rattle.sessions.specs.Editing.{Editing, log_state, logged, run_in, undo_in, undone_from}
use Rattle.promises.specs.Sessions.{with_redo_start}
use Rattle.promises.specs.Edits.{edit_all, used_all}
use Rattle.promises.specs.Promises.{Restored, redo_met, used_room, nineteen_room}
use Rattle.promises.proofs.UndoExact.{undo_exact}
use Rattle.inversion.specs.Rebuild.{Builds}

-- refusal, rule and operators done, with the session (redo answers so too)
abbrev pub answered : ℕ → ℕ → ℕ → Session → Left DoneAnswer
answered refusal rule done s = record {
  answer = record { refusal = refusal; rule = rule; done = done };
  session = s;
}

-- nothing done
abbrev pub not_done : ℕ → ℕ → List ℕ → List ℤ → List ℕ → Session → Leaves (Left DoneAnswer)
not_done refusal rule x p log s = leaves (answered refusal rule 0 s) x p log

-- what a run leaves
abbrev pub done_by : Leaves (Left RunAnswer) → Leaves (Left DoneAnswer)
done_by r =
    leaves
    (answered r.answer.answer.refusal r.answer.answer.rule r.answer.answer.done r.answer.session)
    r.links r.points r.log

-- the call: 1, or 2 with the rule; the refusal; else the run. Only the length of the redo log is passed
unfoldable pub whole_of : List ℕ → List ℤ → List ℕ → ℕ → Session → ℕ → List Operator → Leaves (Left DoneAnswer)
whole_of x p log redo s refusal os =
    pick (eqb (entry (state x p log s.log)).refusal 0)
    (pick (eqb refusal 0) (done_by (session_run x p log redo s (write_script os))) (not_done refusal 0 x p log s))
    (not_done (entry (state x p log s.log)).refusal (entry (state x p log s.log)).rule x p log s)

-- on what is lent, and what it leaves
abbrev pub whole_in : Editing → ℕ → List Operator → Leaves (Left DoneAnswer)
whole_in e refusal os = whole_of e.links e.points e.log (length e.redo) e.session refusal os

abbrev pub whole_from : Editing → ℕ → List Operator → Editing
whole_from e refusal os = logged e (whole_in e refusal os).answer.session (whole_in e refusal os)

-- undo by n, on what is lent as s, gives back what was lent as e: every word and coordinate, the log's start and the
-- log from there on; it answers 0, n and that start
pub record UndoneTo (e s : Editing) (n : ℕ) : Type 0 where
  pub links : (undone_from s n).links ≡ e.links
  pub points : (undone_from s n).points ≡ e.points
  pub start : (undone_from s n).session.log ≡ e.session.log
  pub log : drop e.session.log (undone_from s n).log ≡ drop e.session.log e.log
  pub answer : (undo_in s n).answer.answer ≡ record { refusal = 0; rule = 0; undone = n; start = e.session.log }

-- the undo promise is such
pub undone_to : (e : Editing) (ss : List (List ℕ)) → e.session.log ≤ length e.log → Restored e ss
    → UndoneTo e (edit_all e ss).last (edit_all e ss).done
undone_to e ss h r =
    record { links = r.links; points = r.points; start = r.start; log = r.log; answer = r.answer h }

-- what is refused before anything is done: 1 or 2, then the call's own refusal
abbrev pub early : Editing → ℕ → ℕ
early e refusal = pick (eqb (entry (log_state e)).refusal 0) refusal (entry (log_state e)).refusal

module _ (e : Editing) (refusal : ℕ) (os : List Operator) where
  -- A REFUSAL LEAVES EVERYTHING
  pub whole_unchanged : early e refusal ≢ 0
      → ((whole_in e refusal os).answer.answer.refusal ≡ early e refusal) ×
      ((whole_in e refusal os).answer.answer.done ≡ 0)
      × (whole_from e refusal os ≡ e)
  unfolding whole_of
  whole_unchanged = split (entry (log_state e)).refusal 0
      (λ a. rw (eqb_same a) (λ n. rw (eqb_other n) (refl, refl, refl)))
      (λ a. rw (eqb_other a) (λ n. (refl, refl, refl)))

  -- the redo log's start is ignored: answer, table, log and the log's start do not depend on it
  pub whole_any_redo : (k : ℕ) → let w = whole_in (with_redo_start e k) refusal os in
      (w.answer.answer ≡ (whole_in e refusal os).answer.answer) × (w.links ≡ (whole_in e refusal os).links)
      × (w.points ≡ (whole_in e refusal os).points) × (w.log ≡ (whole_in e refusal os).log)
      × (w.answer.session.log ≡ (whole_in e refusal os).answer.session.log)
  unfolding whole_of session_run
  whole_any_redo k = split (entry (log_state e)).refusal 0
      (λ a. rw (eqb_same a) (split refusal 0 (λ b. rw (eqb_same b) (refl, refl, refl, refl, refl))
      (λ b. rw (eqb_other b) (refl, refl, refl, refl, refl))))
      (λ a. rw (eqb_other a) (refl, refl, refl, refl, refl))

  -- 0 is answered only where nothing is refused before
  pub whole_answered : (whole_in e refusal os).answer.answer.refusal ≡ 0
      → ((entry (log_state e)).refusal ≡ 0) × (refusal ≡ 0)
  unfolding whole_of
  whole_answered = split (entry (log_state e)).refusal 0
      (λ a. rw (eqb_same a) (split refusal 0 (λ b h. (a, b)) (λ b. rw (eqb_other b) (λ h. absurd (b h)))))
      (λ a. rw (eqb_other a) (λ h. absurd (a h)))

  module _ (ok : (entry (log_state e)).refusal ≡ 0) (free : refusal ≡ 0) where
    -- else it is the run
    pub whole_run : whole_in e refusal os ≡ done_by (run_in e (write_script os))
    unfolding whole_of
    whole_run = rw (eqb_same ok, eqb_same free)

    -- where the operators are accepted one after the other
    module _ {y : List ℕ} {q : List ℤ} (w : Builds y q (length os) (length (write_script os)) (run_of (log_state e)
        (write_script os))) where
      -- ALL OF THEM ARE DONE
      pub whole_all : ((whole_in e refusal os).answer.answer.refusal ≡ 0)
          × ((whole_in e refusal os).answer.answer.done ≡ length os) × ((whole_in e refusal os).links ≡ y)
          × ((whole_in e refusal os).points ≡ q)
      unfolding session_run
      whole_all = rw whole_run (w.refusal, w.done_is, w.links, w.points)

      -- what the call leaves is what the run of their script leaves, and as many are done
      pub whole_edit : ((edit_all e (write_script os ∷ [])).last ≡ whole_from e refusal os)
          × ((edit_all e (write_script os ∷ [])).done ≡ (whole_in e refusal os).answer.answer.done)
          × ((edit_all e (write_script os ∷ [])).done ≡ length os)
      unfolding edit_all session_run
      whole_edit = rw whole_run (refl, add-zero _, add-zero _ ∙ w.done_is)

      -- UNDOING THEM GIVES THE EARLIER TABLE where the redo log is as long as the script, or has 19 bytes for each
      -- operator; its start may be any, if there is an operator at all
      pub whole_undone : (length os ≡ 0 → e.session.redo ≤ length e.redo)
          → (length (write_script os) ≤ length e.redo) ⊎ (19 * length os ≤ length e.redo)
          → UndoneTo e (whole_from e refusal os) (whole_in e refusal os).answer.answer.done
      unfolding used_all
      whole_undone a b =
          let ss = write_script os ∷ [] in
          let c = entry_passed (log_state e) ok in
          let m = redo_met e ss (λ z. a (sym whole_edit.2 ∙ z)) in
          let q = ⊎_elim
          (λ h. used_room e ss c.1 m (omega (arith, w.used_is, h)))
          (λ h. nineteen_room e ss c.1 m (omega (arith, whole_edit.2, h)))
          b in
          subst (UndoneTo e (whole_from e refusal os)) whole_edit.1
          (subst (λ t. UndoneTo e t (edit_all e ss).done) whole_edit.0
          (undone_to e ss c.0 (undo_exact e ss c.1 q)))
