-- The undo promise (document 01, "Demand 3 in detail"; document 02, job 4), and what comes with it. It is about
-- `sessionRun` and `session_undo`, the very definitions that the contracts of `zoghvari_run` and `zoghvari_undo` (crate
-- `kernel`) cite: these say that answer, session, links, points and logs after a call are the definition's, for every
-- input. So what is said here of a chain of such values is said of the same calls made one after the other on memory
-- that nobody else writes to.
use Rattle.std.specs.Prelude.{◌≡◌, refl, List, [], ◌∷◌, ◌++◌, ℕ, ◌*◌, ◌≤◌, ◌<◌, eqb, drop}
use Rattle.std.proofs.Common.{sym, ◌∙◌, subst, ⊎_elim, zero-add, arith, eqb-true}
use Rattle.std.proofs.Math.Path.{ap}
use Rattle.std.proofs.Math.ListN.{length}
use Rattle.laws.specs.Bools.{le?, split, eqb_other}
use Rattle.layout.specs.Layout.{shape_of}
use Rattle.numbers.specs.PaddedLaws.{shorten_nil}
use Rattle.table.specs.Check.{check_of}
use Rattle.runs.specs.Run.{State, state, Leaves, not_run, entry, run_of}
use Rattle.runs.specs.Move.{Moved, move_of}
use Rattle.runs.specs.Clauses.{pick_by, run_out, entry_beyond}
use Rattle.sessions.specs.declared.Left.{Left}
use Rattle.sessions.specs.declared.UndoAnswer.{UndoAnswer}
use Rattle.sessions.specs.Session.{session_undo}
use Rattle.sessions.specs.Editing.{Editing, log_state, undo_in, undone_from}
use Rattle.promises.specs.RunAll.{run_all}
use Rattle.promises.specs.Checked.{checked_good, good_checked}
use Rattle.promises.specs.Trail.{trail_none, trail_size, Gone, gone_none}
use Rattle.promises.specs.Moves.{gone_full}
use Rattle.promises.specs.Edits.{edit_all, emptied_by, edited, done_script, gone_all, used_all}
use Rattle.promises.specs.Edits.{room_by_used}

-- undo by the sum of the done counts, after the scripts ss were run, one after the other, on what was lent
abbrev pub undo_all : Editing → List (List ℕ) → Leaves (Left UndoAnswer)
undo_all e ss = undo_in (edit_all e ss).last (edit_all e ss).done

-- and all that it leaves
abbrev pub undone_all : Editing → List (List ℕ) → Editing
undone_all e ss = undone_from (edit_all e ss).last (edit_all e ss).done

-- everything is as it was: every word of links and points; the log's start, and the log from there on; if that start is
-- not beyond the log, undo answers 0, that sum and the first start. And what redo finds are the operators done, in
-- fewest groups, in front of what was live when undo began
pub record Restored (e : Editing) (ss : List (List ℕ)) : Type 0 where
  pub links : (undone_all e ss).links ≡ e.links
  pub points : (undone_all e ss).points ≡ e.points
  pub start : (undone_all e ss).session.log ≡ e.session.log
  pub log : drop e.session.log (undone_all e ss).log ≡ drop e.session.log e.log
  pub answer : e.session.log ≤ length e.log
      → (undo_all e ss).answer.answer
      ≡ record { refusal = 0; rule = 0; undone = (edit_all e ss).done; start = e.session.log }
  pub redo : drop (undone_all e ss).session.redo (undone_all e ss).redo
      ≡ done_script (log_state e) ss ++ drop (edit_all e ss).last.session.redo e.redo

-- "every promise about undoing … supposes a redo start not beyond the redo log, and room in that log for the operators
-- undo writes there" (document 02, job 4): both of the start that undo meets, which the last run left. The first
-- session's redo start may be anything where a run that does an operator sets it
pub record RedoRoom (e : Editing) (ss : List (List ℕ)) : Type 0 where
  pub fits : (edit_all e ss).last.session.redo ≤ length e.redo
  pub room : length (done_script (log_state e) ss) ≤ (edit_all e ss).last.session.redo

-- ---- a start beyond the log: nothing is run

-- it is not let in
not_0 : (t : State) → length t.log < t.start → (entry t).refusal ≡ 0 → ⊥
not_0 t h e = let z : ◌≡◌ {A = ℕ} 1 0 = rw (entry_beyond t h) at e in omega arith

-- a run does nothing
run_beyond : (t : State) (s : List ℕ) → length t.log < t.start → run_of t s ≡ not_run 1 0 t
run_beyond t s h = run_out t s (not_0 t h) ∙ rw (entry_beyond t h)

-- nor does a list of runs
pub all_beyond : (t : State) (ss : List (List ℕ)) → length t.log < t.start
    → run_all t ss ≡ record { done = 0; last = t }
unfolding run_all
all_beyond t [] h = refl
all_beyond t (s ∷ ss) h = rw (run_beyond t s h, all_beyond t ss h)

-- so no operator is done
nothing_done : (t : State) (ss : List (List ℕ)) → length t.log < t.start → done_script t ss ≡ []
unfolding done_script
nothing_done t [] h = refl
nothing_done t (s ∷ ss) h = rw (run_beyond t s h, shorten_nil) (nothing_done t ss h)

-- ---- runs

module _ (t : State) (ss : List (List ℕ)) (sound : (check_of t.links t.points).refusal ≡ 0) where
  -- from the first state to what the runs leave lead the operators done, if its start is not beyond the log
  pub all_gone : t.start ≤ length t.log
      → Gone (shape_of t.links) t (run_all t ss).done (done_script t ss) (run_all t ss).last
  all_gone h =
      rw (zero-add (run_all t ss).done) at (gone_all t ss (gone_none t (checked_good t.links t.points sound) h))

  -- a sound table stays sound
  pub runs_sound : (check_of (run_all t ss).last.links (run_all t ss).last.points).refusal ≡ 0
  runs_sound =
      ⊎_elim (λ h. rw (good_checked (all_gone h).good)) (λ h. rw (all_beyond t ss h) sound)
      (le? t.start (length t.log))

-- ---- undo

-- the start that undo meets is not beyond the redo log where an operator was done, or where the first was not
pub redo_met : (e : Editing) (ss : List (List ℕ)) → ((edit_all e ss).done ≡ 0 → e.session.redo ≤ length e.redo)
    → (edit_all e ss).last.session.redo ≤ length e.redo
redo_met e ss h =
    let r = edited e ss in
    let n = (run_all (log_state e) ss).done in
    let k : emptied_by e n ≤ length e.redo =
    pick_by (λ m. m ≤ length e.redo) (eqb n 0) e.session.redo (length e.redo)
    (λ z. h (r.done ∙ eqb-true n 0 z)) (λ z. omega arith) in
    omega (arith, k, r.start)

module _ (e : Editing) (ss : List (List ℕ)) (sound : (check_of e.links e.points).refusal ≡ 0) where
  -- what the runs leave
  abbrev ran : Editing
  ran = (edit_all e ss).last

  abbrev script : List ℕ
  script = done_script (log_state e) ss

  -- of any move by what the runs left, said of what the runs without a session leave
  pub by_runs : (P : Moved → Type 0)
      → (let t = (run_all (log_state e) ss).last in
      P (move_of t.log t.start (state t.links t.points ran.redo ran.session.redo)
      (run_all (log_state e) ss).done))
      → P (move_of ran.log ran.session.log (state ran.links ran.points ran.redo ran.session.redo)
      (edit_all e ss).done)
  by_runs P h =
      let r = edited e ss in
      subst (λ (t : State). P (move_of t.log t.start (state t.links t.points ran.redo ran.session.redo)
      (edit_all e ss).done)) (sym r.state) (rw r.done h)

  -- where the start is beyond the log, neither runs nor undo change anything
  module _ (h : length e.log < e.session.log) where
    -- no operator is done
    pub none_done : script ≡ []
    none_done = nothing_done (log_state e) ss h

  -- AND WITHOUT THAT ROOM IT IS NOT: undo is refused with 9
  pub undo_full : e.session.log ≤ length e.log → ran.session.redo ≤ length e.redo
      → ran.session.redo < length script → (undo_all e ss).answer.answer.refusal ≡ 9
  unfolding session_undo
  undo_full h k short =
      by_runs (λ m. m.answer.refusal ≡ 9)
      (gone_full (all_gone (log_state e) ss sound h) ran.redo ran.session.redo
      (omega (arith, k, ap length (edited e ss).redo)) short)

  -- where nothing was done there is nothing to write
  none_written : (run_all (log_state e) ss).done ≡ 0 → script ≡ []
  none_written z =
      ⊎_elim (λ h. trail_none (rw z at (all_gone (log_state e) ss sound h).trail)) none_done
      (le? e.session.log (length e.log))

  -- a redo log as long as these operators is enough, where the start that undo meets is within it
  length_room : ran.session.redo ≤ length e.redo → length script ≤ length e.redo → RedoRoom e ss
  length_room h k = record {
    fits = h;
    room = split (run_all (log_state e) ss).done 0
        (λ z. rw (none_written z) (omega arith))
        (λ d.
        let f : ran.session.redo ≡ length e.redo = (edited e ss).start ∙ rw (eqb_other d) in
        omega (arith, f, k));
  }

  -- the operators done take at most 19 bytes each
  script_size : length script ≤ 19 * (run_all (log_state e) ss).done
  script_size =
      ⊎_elim (λ h. trail_size (all_gone (log_state e) ss sound h).trail) (λ h. rw (none_done h) (omega arith))
      (le? e.session.log (length e.log))

  -- SO IS ONE AS LONG AS THE BYTES USED: the sum of what the runs answer as used
  pub used_room : ran.session.redo ≤ length e.redo → used_all (log_state e) ss ≤ length e.redo → RedoRoom e ss
  used_room h k = length_room h (omega (arith, k, room_by_used (log_state e) ss))

  -- AND ONE OF 19 BYTES FOR EACH OPERATOR DONE
  pub nineteen_room : ran.session.redo ≤ length e.redo → 19 * (edit_all e ss).done ≤ length e.redo
      → RedoRoom e ss
  nineteen_room h k = length_room h (omega (arith, k, (edited e ss).done, script_size))
