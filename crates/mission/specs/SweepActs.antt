-- Sweeps among the other calls: a sweep leaves what an act of the kernel leaves, so what is said of every list of acts
-- is said of every list of calls with sweeps among them.
use Rattle.std.specs.Prelude.{◌≡◌, refl, true, List, [], ◌∷◌, ℕ, ◌+◌, ◌*◌, ◌≤◌, eqb, length}
use Rattle.std.proofs.Common.{sym, ap, ◌∙◌, subst, zero-add, arith}
use Rattle.std.proofs.lemmas.Bool.{false≢true}
use Rattle.laws.specs.Bools.{pick, split, eqb_same, eqb_other}
use Rattle.script.specs.Operator.{write_script}
use Rattle.table.specs.Check.{check_of}
use Rattle.sessions.specs.Editing.{Editing, run_in, ran_from}
use Rattle.promises.specs.Edits.{edit_all}
use Rattle.promises.specs.Promises.{RedoRoom, nineteen_room, redo_met}
use Rattle.promises.proofs.UndoExact.{undo_exact}
use Rattle.machine.specs.Machine.{Act, Clear, Check, Count, Read, Write, Run, Undo, Redo, Invert, Obj}
use Rattle.machine.specs.Machine.{does, do_all, last_of, behind, done_of, done_in, done_by, only_runs}
use Rattle.machine.specs.Acts.{scripts_of}
use Rattle.chains.specs.Whole.{UndoneTo, undone_to}
use Rattle.sweeps.specs.declared.Vector.{Vector}
use Rattle.sweeps.specs.Swept.{ops_in, sweep_in, swept_from, sweep_unchanged, sweep_whole, sweep_run}
use Rattle.mission.specs.SoundActs.{sound_acts}

-- a call of the kernel, or a sweep
pub data Call : Type 0 where
  Kernel : Act → Call
  Sweep : ℕ → Vector → Call

-- what a call leaves
abbrev pub after_call : Editing → Call → Editing
after_call e (Kernel a) = (does e a).after
after_call e (Sweep f v) = swept_from e f v

-- the operators that it answers done
abbrev pub done_call : Editing → Call → ℕ
done_call e (Kernel a) = done_of (does e a).answer
done_call e (Sweep f v) = (sweep_in e f v).answer.answer.done

-- calls one after the other: what the last one leaves, and the sum of the done counts
unfoldable pub after_calls : Editing → List Call → Editing
after_calls e [] = e
after_calls e (c ∷ cs) = after_calls (after_call e c) cs

unfoldable pub done_calls : Editing → List Call → ℕ
done_calls e [] = 0
done_calls e (c ∷ cs) = done_call e c + done_calls (after_call e c) cs

-- the act that comes to the same: of a sweep the run of its operators, or, where it is refused, a check
abbrev pub act_for : Editing → Call → Act
act_for e (Kernel a) = a
act_for e (Sweep f v) = pick (eqb (sweep_in e f v).answer.answer.refusal 0) (Run (write_script (ops_in e f v))) Check

-- call by call
unfoldable pub acts_for : Editing → List Call → List Act
acts_for e [] = []
acts_for e (c ∷ cs) = act_for e c ∷ acts_for (after_call e c) cs

-- it leaves the same, and as many are done
act_same : (e : Editing) (c : Call)
    → ((does e (act_for e c)).after ≡ after_call e c) × (done_of (does e (act_for e c)).answer ≡ done_call e c)
act_same e (Kernel a) = (refl, refl)
act_same e (Sweep f v) = split (sweep_in e f v).answer.answer.refusal 0
    (λ z.
    let w = sweep_whole e f v z in
    rw (eqb_same z) (sym w.3, (sweep_run e f v z).1 ∙ w.1 ∙ sym w.0))
    (λ d. let w = sweep_unchanged e f v d in rw (eqb_other d) (sym w.2, sym w.1))

-- SWEEPS ARE ACTS: a list of calls leaves what the list of their acts leaves, and the done counts add up to the same
pub calls_acts : (e : Editing) (cs : List Call)
    → (after_calls e cs ≡ behind e (acts_for e cs)) × (done_calls e cs ≡ done_by e (acts_for e cs))
unfolding after_calls done_calls acts_for do_all last_of done_in
calls_acts e [] = (refl, refl)
calls_acts e (c ∷ cs) =
    let s = act_same e c in
    let r = calls_acts (after_call e c) cs in
    let acts = acts_for (after_call e c) cs in (
      r.0 ∙ ap (λ t. behind t acts) (sym s.0),
      ap (λ n. done_call e c + n) r.1 ∙ ap (λ t. done_call e c + done_by t acts) (sym s.0)
          ∙ ap (λ n. n + done_by (does e (act_for e c)).after acts) (sym s.1),
    )

-- so a sound table stays sound
pub calls_sound : (e : Editing) (cs : List Call) → (check_of e.links e.points).refusal ≡ 0
    → (check_of (after_calls e cs).links (after_calls e cs).points).refusal ≡ 0
calls_sound e cs h = rw (calls_acts e cs).0 (sound_acts e (acts_for e cs) h)

-- ---- undo by the sum of the done counts, where runs and sweeps alone have written

-- the calls come to the runs of their scripts
record AsRuns (e : Editing) (cs : List Call) : Type 0 where
  last : after_calls e cs ≡ (edit_all e (scripts_of (acts_for e cs))).last
  done : done_calls e cs ≡ (edit_all e (scripts_of (acts_for e cs))).done

-- call by call
calls_runs : (e : Editing) (cs : List Call) → only_runs (acts_for e cs) ≡ true → AsRuns e cs
unfolding after_calls done_calls acts_for edit_all
calls_runs e [] h = record { last = refl; done = refl }
calls_runs e (Kernel (Clear s f l d v) ∷ cs) h = absurd (false≢true h)
calls_runs e (Kernel Check ∷ cs) h = let r = calls_runs e cs h in record { last = r.last; done = zero-add _ ∙ r.done }
calls_runs e (Kernel Count ∷ cs) h = let r = calls_runs e cs h in record { last = r.last; done = zero-add _ ∙ r.done }
calls_runs e (Kernel (Read s at) ∷ cs) h =
    let r = calls_runs e cs h in record { last = r.last; done = zero-add _ ∙ r.done }
calls_runs e (Kernel (Write o out) ∷ cs) h =
    let r = calls_runs e cs h in record { last = r.last; done = zero-add _ ∙ r.done }
calls_runs e (Kernel (Run s) ∷ cs) h =
    let r = calls_runs (ran_from e s) cs h in
    record { last = r.last; done = ap (λ n. (run_in e s).answer.answer.done + n) r.done }
calls_runs e (Kernel (Undo n) ∷ cs) h = absurd (false≢true h)
calls_runs e (Kernel (Redo n) ∷ cs) h = absurd (false≢true h)
calls_runs e (Kernel Invert ∷ cs) h = absurd (false≢true h)
calls_runs e (Kernel (Obj s out) ∷ cs) h =
    let r = calls_runs e cs h in record { last = r.last; done = zero-add _ ∙ r.done }
calls_runs e (Sweep f v ∷ cs) h = split (sweep_in e f v).answer.answer.refusal 0
    (λ z.
    let w = sweep_whole e f v z in
    let r = calls_runs (swept_from e f v) cs (rw (eqb_same z) at h) in
    let s = write_script (ops_in e f v) in
    let k = scripts_of (acts_for (swept_from e f v) cs) in
    record {
      last = rw (eqb_same z) (r.last ∙ ap (λ t. (edit_all t k).last) w.3);
      done = rw (eqb_same z) (ap (λ n. n + done_calls (swept_from e f v) cs)
          (w.0 ∙ sym w.1 ∙ sym (sweep_run e f v z).1)
          ∙ ap (λ n. (run_in e s).answer.answer.done + n) (r.done ∙ ap (λ t. (edit_all t k).done) w.3));
    })
    (λ d.
    let w = sweep_unchanged e f v d in
    let r = calls_runs (swept_from e f v) cs (rw (eqb_other d) at h) in
    let k = scripts_of (acts_for (swept_from e f v) cs) in
    record {
      last = rw (eqb_other d) (r.last ∙ ap (λ t. (edit_all t k).last) w.2);
      done = rw (eqb_other d) (ap (λ n. n + done_calls (swept_from e f v) cs) w.1 ∙ zero-add _ ∙ r.done
          ∙ ap (λ t. (edit_all t k).done) w.2);
    })

module _ (e : Editing) (cs : List Call) (o : only_runs (acts_for e cs) ≡ true)
    (h : (check_of e.links e.points).refusal ≡ 0) where
  -- 19 bytes for each operator done are room enough in the redo log; its start may be any, if an operator is done
  pub calls_room : (done_calls e cs ≡ 0 → e.session.redo ≤ length e.redo) → 19 * done_calls e cs ≤ length e.redo
      → RedoRoom e (scripts_of (acts_for e cs))
  calls_room a b =
      let r = calls_runs e cs o in
      nineteen_room e (scripts_of (acts_for e cs)) h (redo_met e (scripts_of (acts_for e cs)) (λ z. a (r.done ∙ z)))
      (omega (arith, b, r.done))

  -- then undo gives back what there was before the first call
  pub calls_undone : e.session.log ≤ length e.log → RedoRoom e (scripts_of (acts_for e cs))
      → UndoneTo e (after_calls e cs) (done_calls e cs)
  calls_undone l m =
      let r = calls_runs e cs o in
      let u = undone_to e (scripts_of (acts_for e cs)) l (undo_exact e (scripts_of (acts_for e cs)) h m) in
      subst (UndoneTo e (after_calls e cs)) (sym r.done)
      (subst (λ t. UndoneTo e t (edit_all e (scripts_of (acts_for e cs))).done) (sym r.last) u)
