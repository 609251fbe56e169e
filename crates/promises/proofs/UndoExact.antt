-- The undo promise is kept: undo is exact, and the next run goes as it would have gone at first.
use Rattle.std.specs.Prelude.{◌≡◌, List, ℕ, ◌-◌, ◌≤◌, ◌<◌, ℤ, drop}
use Rattle.std.proofs.Common.{sym, ◌∙◌, ⊎_elim, arith}
use Rattle.std.proofs.Math.Path.{ap}
use Rattle.std.proofs.Math.ListN.{length}
use Rattle.laws.specs.Bools.{le?}
use Rattle.table.specs.Check.{check_of}
use Rattle.runs.specs.Run.{State, state, Leaves, run_of}
use Rattle.runs.specs.Move.{moved, not_moved}
use Rattle.runs.specs.Clauses.{moved_beyond}
use Rattle.sessions.specs.declared.Left.{Left}
use Rattle.sessions.specs.declared.UndoAnswer.{UndoAnswer}
use Rattle.sessions.specs.Session.{undone_session, session_undo}
use Rattle.sessions.specs.Editing.{Editing, log_state}
use Rattle.promises.specs.Logging.{below, below_live}
use Rattle.promises.specs.OtherLog.{with_log, Same, same_run}
use Rattle.promises.specs.Trail.{gone_length, gone_rest}
use Rattle.promises.specs.Moves.{gone_back}
use Rattle.promises.specs.Edits.{edit_all, edited, done_script}
use Rattle.promises.specs.Promises.{undo_all, undone_all, Restored, RedoRoom, all_beyond, all_gone, by_runs, none_done}

-- two states of the same log
state_alike : {x y log : List ℕ} {p q : List ℤ} {i j : ℕ} → x ≡ y → p ≡ q → i ≡ j
    → state x p log i ≡ state y q log j
state_alike a b c = rw (a, b, c)

module _ (e : Editing) (ss : List (List ℕ)) (sound : (check_of e.links e.points).refusal ≡ 0) where
  -- what the runs leave
  abbrev ran : Editing
  ran = (edit_all e ss).last

  abbrev script : List ℕ
  script = done_script (log_state e) ss

  -- the first state with what undo writes into the redo log
  abbrev back : State
  back =
      state e.links e.points (below ran.redo ran.session.redo script)
      (ran.session.redo - length script)

  -- what the supposition comes to in the redo log that the runs leave, which is as long as it was
  redo_room : RedoRoom e ss → (ran.session.redo ≤ length ran.redo) × (length script ≤ ran.session.redo)
  redo_room q = (omega (arith, q.fits, ap length (edited e ss).redo), omega (arith, q.room))

  -- the whole of what undo leaves
  undone_is : RedoRoom e ss → e.session.log ≤ length e.log
      → undo_all e ss ≡ undone_session (moved 0 (edit_all e ss).done e.session.log back)
  unfolding session_undo
  undone_is q h =
      let r = edited e ss in
      let g = all_gone (log_state e) ss sound h in
      let m = redo_room q in
      let f = gone_back g ran.redo ran.session.redo m.0 m.1 in
      ap undone_session (by_runs e ss sound (λ m. m ≡ moved 0 (edit_all e ss).done e.session.log back) (rw r.done f))

  -- the log is what it was from the first start on
  log_kept : drop e.session.log ran.log ≡ drop e.session.log e.log
  log_kept =
      let r = edited e ss in
      ap (λ (t : State). drop e.session.log t.log) r.state
      ∙ ⊎_elim (λ h. gone_rest (all_gone (log_state e) ss sound h)) (λ h. rw (all_beyond (log_state e) ss h))
      (le? e.session.log (length e.log))

  -- where the start is beyond the log, neither runs nor undo change anything
  module _ (h : length e.log < e.session.log) where
    stays : undo_all e ss ≡ undone_session (not_moved 1 0 e.session.log (state e.links e.points e.redo
        e.session.redo))
    unfolding session_undo
    stays =
        let r = edited e ss in
        let b = all_beyond (log_state e) ss h in
        let s : ran.session.redo ≡ e.session.redo = r.start ∙ rw b in
        ap undone_session (by_runs e ss sound (λ m. m ≡ not_moved 1 0 e.session.log (state e.links e.points e.redo
        e.session.redo)) (rw (b, r.redo, s) (moved_beyond e.log e.session.log _ 0 h)))

  -- UNDO IS EXACT: of a table that passes the check, whoever made it, any list of scripts, any log and start, with room
  -- in the redo log
  pub undo_exact : RedoRoom e ss → Restored e ss
  undo_exact q =
      ⊎_elim
      (λ h. let f = undone_is q h in let m = redo_room q in record {
        links = ap (λ (u : Leaves (Left UndoAnswer)). u.links) f;
        points = ap (λ (u : Leaves (Left UndoAnswer)). u.points) f;
        start = ap (λ (u : Leaves (Left UndoAnswer)). u.answer.session.log) f;
        log = log_kept;
        answer = λ i. ap (λ (u : Leaves (Left UndoAnswer)). u.answer.answer) f;
        redo = ap (λ (u : Leaves (Left UndoAnswer)). drop u.answer.session.redo u.log) f
            ∙ below_live ran.redo ran.session.redo m.0 script m.1
            ∙ rw (edited e ss).redo;
      })
      (λ h. let f = stays h in record {
        links = ap (λ (u : Leaves (Left UndoAnswer)). u.links) f;
        points = ap (λ (u : Leaves (Left UndoAnswer)). u.points) f;
        start = ap (λ (u : Leaves (Left UndoAnswer)). u.answer.session.log) f;
        log = log_kept;
        answer = λ i. absurd (omega (arith, i, h));
        redo = ap (λ (u : Leaves (Left UndoAnswer)). drop u.answer.session.redo u.log) f
            ∙ rw (none_done e ss sound h, (edited e ss).start, all_beyond (log_state e) ss h);
      })
      (le? e.session.log (length e.log))

  -- undo leaves the first table and the first start; only the log's bytes below it may be others
  pub undone_first : RedoRoom e ss → log_state (undone_all e ss) ≡ with_log (log_state e) ran.log
  undone_first q =
      let u = undo_exact q in state_alike u.links u.points u.start

  -- so the next run goes as it would have gone at first: the same answer, the same table, the same live log
  pub next_run : RedoRoom e ss → (s : List ℕ) → Same (run_of (log_state e) s) (run_of (log_state (undone_all e ss)) s)
  next_run q s =
      let r = edited e ss in
      let l : length e.log ≡ length ran.log = ⊎_elim
      (λ h. sym (ap (λ (t : State). length t.log) r.state ∙ gone_length (all_gone (log_state e) ss sound h)))
      (λ h. sym (ap (λ (t : State). length t.log) r.state ∙ rw (all_beyond (log_state e) ss h)))
      (le? e.session.log (length e.log)) in
      rw (undone_first q) (same_run (log_state e) ran.log s (l, sym log_kept))
