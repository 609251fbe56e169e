-- What the five calls do to the session (document 02, job 4): who empties the redo log, who looks at its start, what a
-- refusal leaves, and where each log then starts.
use Rattle.std.specs.Prelude.{◌≡◌, refl, ◌≢◌, List, ℕ, ◌<◌, length}
use Rattle.std.proofs.Common.{ap, ◌∙◌, ⊎_elim, arith, lt-ltb}
use Rattle.laws.specs.Bools.{le?, eqb_same, eqb_other}
use Rattle.layout.specs.Layout.{shape_of}
use Rattle.table.specs.declared.check.CheckAnswer.{CheckAnswer}
use Rattle.runs.specs.Run.{Leaves}
use Rattle.runs.specs.Move.{moved_by, moved, not_moved, move_entry}
use Rattle.runs.specs.Clauses.{entry_beyond, moved_beyond, move_within, move_in, move_out}
use Rattle.runs.specs.RunLaws.{run_ended}
use Rattle.sessions.specs.declared.Left.{Left}
use Rattle.sessions.specs.declared.UndoAnswer.{UndoAnswer}
use Rattle.sessions.specs.declared.RedoAnswer.{RedoAnswer}
use Rattle.sessions.specs.Session.{starts, session_clear, session_run, session_invert, undone_session, session_undo}
use Rattle.sessions.specs.Session.{redone_session, session_redo}
use Rattle.sessions.specs.Editing.{Editing, log_state, redo_state, clear_in, run_in, undo_in, redo_in, invert_in}
use Rattle.promises.specs.Checked.{checked_good}
use Rattle.promises.specs.Moves.{good_move}
use Rattle.promises.specs.Redo.{LetIn}

-- "clearing, or an operator done by any call but these two, empties it"; a run or take-down that does none leaves its
-- start
pub record Empties (e : Editing) : Type 0 where
  -- clearing starts both logs at their ends
  pub cleared : (s f l d v : ℕ) → (clear_in e s f l d v).answer.answer.refusal ≡ 0
      → (clear_in e s f l d v).answer.session ≡ starts (length e.log) (length e.redo)
  -- a run and the take-down the redo log, if an operator was done; else it starts where it did
  pub ran : (script : List ℕ) → (run_in e script).answer.answer.done ≢ 0
      → (run_in e script).answer.session.redo ≡ length e.redo
  pub ran_none : (script : List ℕ) → (run_in e script).answer.answer.done ≡ 0
      → (run_in e script).answer.session.redo ≡ e.session.redo
  pub inverted : (invert_in e).answer.answer.done ≢ 0 → (invert_in e).answer.session.redo ≡ length e.redo
  pub inverted_none : (invert_in e).answer.answer.done ≡ 0 → (invert_in e).answer.session.redo ≡ e.session.redo

-- who empties
pub redo_emptied : (e : Editing) → Empties e
unfolding session_clear session_run session_invert
redo_emptied e = record {
  cleared = λ s f l d v z. rw (eqb_same z);
  ran = λ script d. rw (eqb_other d);
  ran_none = λ script z. rw (eqb_same z);
  inverted = λ d. rw (eqb_other d);
  inverted_none = λ z. rw (eqb_same z);
}

-- where the log starts: run, undo and take-down answer it too
pub record Starts (e : Editing) : Type 0 where
  pub ran : (script : List ℕ) → (run_in e script).answer.session.log ≡ (run_in e script).answer.answer.start
  pub undone : (n : ℕ) → (undo_in e n).answer.session.log ≡ (undo_in e n).answer.answer.start
  pub inverted : (invert_in e).answer.session.log ≡ (invert_in e).answer.answer.start

-- it does
pub starts_answered : (e : Editing) → Starts e
unfolding session_run session_undo session_invert
starts_answered e = record { ran = λ script. refl; undone = λ n. refl; inverted = refl }

-- ---- a redo start beyond its log

-- refused with 1, nothing done: the session as it was
abbrev pub not_undone : Editing → ℕ → ℕ → Leaves (Left UndoAnswer)
not_undone e refusal rule = undone_session (not_moved refusal rule e.session.log (redo_state e))

abbrev pub not_redone : Editing → ℕ → ℕ → Leaves (Left RedoAnswer)
not_redone e refusal rule = redone_session (not_moved refusal rule e.session.redo (log_state e))

-- who is let in to undo, and to redo: 1 where either start is beyond its log, else what the check answers
abbrev pub undo_entry : Editing → CheckAnswer
undo_entry e = move_entry e.log e.session.log (redo_state e)

abbrev pub redo_entry : Editing → CheckAnswer
redo_entry e = move_entry e.redo e.session.redo (log_state e)

-- WHAT THE ENTRY REFUSES CHANGES NOTHING
pub undo_out : (e : Editing) (n : ℕ) → (undo_entry e).refusal ≢ 0
    → undo_in e n ≡ not_undone e (undo_entry e).refusal (undo_entry e).rule
unfolding session_undo
undo_out e n d = ap undone_session (move_out e.log e.session.log (redo_state e) n d)

pub redo_out : (e : Editing) (n : ℕ) → (redo_entry e).refusal ≢ 0
    → redo_in e n ≡ not_redone e (redo_entry e).refusal (redo_entry e).rule
unfolding session_redo
redo_out e n d = ap redone_session (move_out e.redo e.session.redo (log_state e) n d)

-- the same lent with another redo start
abbrev pub with_redo_start : Editing → ℕ → Editing
with_redo_start e k = record {
  links = e.links;
  points = e.points;
  log = e.log;
  redo = e.redo;
  session = starts e.session.log k;
}

-- "it and undo alone give 1 for a redo start beyond that log": clearing, run and take-down do not look at it
pub record LooksAtRedo (e : Editing) : Type 0 where
  pub undo : length e.redo < e.session.redo → (n : ℕ) → undo_in e n ≡ not_undone e 1 0
  pub redo : length e.redo < e.session.redo → (n : ℕ) → redo_in e n ≡ not_redone e 1 0
  pub cleared : (k s f l d v : ℕ) → (clear_in (with_redo_start e k) s f l d v).answer.answer
      ≡ (clear_in e s f l d v).answer.answer
  pub ran : (k : ℕ) (script : List ℕ) → (run_in (with_redo_start e k) script).answer.answer
      ≡ (run_in e script).answer.answer
  pub inverted : (k : ℕ) → (invert_in (with_redo_start e k)).answer.answer ≡ (invert_in e).answer.answer

-- who does
pub redo_beyond : (e : Editing) → LooksAtRedo e
unfolding session_clear session_run session_undo session_redo session_invert
redo_beyond e = record {
  undo = λ h n. ap undone_session (⊎_elim
      (λ l.
      let w = move_within e.log e.session.log (redo_state e) l ∙ entry_beyond (redo_state e) h in
      move_out e.log e.session.log (redo_state e) n (λ z. let y : ◌≡◌ {A = ℕ} 1 0 = rw w at z in omega arith) ∙ rw
      w)
      (λ l. moved_beyond e.log e.session.log (redo_state e) n l)
      (le? e.session.log (length e.log)));
  redo = λ h n. ap redone_session (moved_beyond e.redo e.session.redo (log_state e) n h);
  cleared = λ k s f l d v. refl;
  ran = λ k script. refl;
  inverted = λ k. refl;
}

-- "Redo past its log's end gives 11": nothing is done
pub redo_ended : (e : Editing) (n : ℕ) → LetIn e → 0 < n → e.session.redo ≡ length e.redo
    → redo_in e n ≡ redone_session (moved 11 0 e.session.redo (log_state e))
unfolding session_redo
redo_ended e n l m h =
    let t = log_state e in
    let g = good_move e.redo e.session.redo t (checked_good e.links e.points l.sound) l.redo l.log
    in
    let r = run_ended (shape_of e.links) e.redo n e.session.redo 0 t (omega (arith, h)) in
    ap redone_session (move_in e.redo e.session.redo t n (rw g) ∙ ap (moved_by n) r ∙ rw (lt-ltb 0 n m))
