-- The undo promise, said of calls, is kept: acts that write nothing leave what is lent alone, and the others are runs;
-- so this is `undo_exact`.
use Rattle.std.specs.Prelude.{◌≡◌, refl, true, List, [], ◌∷◌, ◌+◌}
use Rattle.std.proofs.Common.{ap, ◌∙◌, zero-add}
use Rattle.std.proofs.lemmas.Bool.{false≢true}
use Rattle.table.specs.Check.{check_of}
use Rattle.sessions.specs.Editing.{Editing, run_in, ran_from}
use Rattle.promises.specs.Edits.{edit_all}
use Rattle.promises.specs.Promises.{RedoRoom}
use Rattle.promises.proofs.UndoExact.{undo_exact}
use Rattle.machine.specs.Machine.{Act, Clear, Check, Count, Read, Write, Run, Undo, Redo, Invert, Obj}
use Rattle.machine.specs.Machine.{ToUndo, do_all, last_of, behind, done_in, done_by, only_runs}
use Rattle.machine.specs.Acts.{scripts_of, ActsUndone}

-- with no other writing call acts come to their runs
record AsRuns (t : Editing) (acts : List Act) : Type 0 where
  last : behind t acts ≡ (edit_all t (scripts_of acts)).last
  done : done_by t acts ≡ (edit_all t (scripts_of acts)).done

-- act by act
acts_runs : (t : Editing) (acts : List Act) → only_runs acts ≡ true → AsRuns t acts
unfolding do_all last_of done_in edit_all
acts_runs t [] h = record { last = refl; done = refl }
acts_runs t (Clear s f l e v ∷ acts) h = absurd (false≢true h)
acts_runs t (Check ∷ acts) h = let r = acts_runs t acts h in record { last = r.last; done = zero-add _ ∙ r.done }
acts_runs t (Count ∷ acts) h = let r = acts_runs t acts h in record { last = r.last; done = zero-add _ ∙ r.done }
acts_runs t (Read s at ∷ acts) h = let r = acts_runs t acts h in record { last = r.last; done = zero-add _ ∙ r.done }
acts_runs t (Write o out ∷ acts) h = let r = acts_runs t acts h in record {
  last = r.last;
  done = zero-add _ ∙ r.done;
}
acts_runs t (Run s ∷ acts) h =
    let r = acts_runs (ran_from t s) acts h in
    record { last = r.last; done = ap (λ n. (run_in t s).answer.answer.done + n) r.done }
acts_runs t (Undo n ∷ acts) h = absurd (false≢true h)
acts_runs t (Redo n ∷ acts) h = absurd (false≢true h)
acts_runs t (Invert ∷ acts) h = absurd (false≢true h)
acts_runs t (Obj s out ∷ acts) h = let r = acts_runs t acts h in record { last = r.last; done = zero-add _ ∙ r.done }

-- UNDO BEHIND ACTS IS EXACT: of a table that passes the check, whoever made it, any log and start, and any list of acts
-- with no other writing call, with room in the redo log
pub undo_acts_lem : (t : Editing) (acts : List Act) → only_runs acts ≡ true → (check_of t.links t.points).refusal ≡ 0
    → RedoRoom t (scripts_of acts) → ActsUndone t acts
undo_acts_lem t acts h sound room =
    let r = acts_runs t acts h in
    let u = undo_exact t (scripts_of acts) sound room in
    record {
      links = rw (r.last, r.done) u.links;
      points = rw (r.last, r.done) u.points;
      start = rw (r.last, r.done) u.start;
      log = rw r.last u.log;
      answer = λ i. rw (r.last, r.done) (ap ToUndo (u.answer i));
      redo = rw (r.last, r.done) u.redo;
    }
