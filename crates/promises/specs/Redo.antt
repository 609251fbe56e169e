-- REDO (document 02, job 4): "Undoing n and redoing as many as were undone must return table, session and live log
-- bytes exactly, when no other call and no outside hand on table, session or logs comes between and the log is in
-- shortest form." For any n, whatever undo answers, and of the log only the bytes that undo read need be in shortest
-- form; then the whole log is as before. And the same the other way round: redoing n and undoing as many as were
-- redone.
use Rattle.std.specs.Prelude.{◌≡◌, true, List, ℕ, ◌+◌, ◌-◌, ◌≤◌, length, take}
use Rattle.std.proofs.Common.{sym, ◌∙◌, subst, arith, drop-drop}
use Rattle.std.proofs.Math.Path.{ap}
use Rattle.std.proofs.Math.ListN.{drop}
use Rattle.numbers.specs.NumberTrip.{Bytes}
use Rattle.numbers.specs.Padded.{shortest}
use Rattle.numbers.specs.PaddedLaws.{shortest_take, shortest_drop}
use Rattle.table.specs.Check.{check_of}
use Rattle.runs.specs.Run.{Leaves}
use Rattle.runs.specs.Move.{Moved, move_of}
use Rattle.sessions.specs.declared.Left.{Left}
use Rattle.sessions.specs.declared.UndoAnswer.{UndoAnswer}
use Rattle.sessions.specs.declared.RedoAnswer.{RedoAnswer}
use Rattle.sessions.specs.Session.{starts, undone_session, session_undo, redone_session, session_redo}
use Rattle.sessions.specs.Editing.{Editing, log_state, redo_state, undo_in, redo_in, undone_from, redone_from}
use Rattle.promises.specs.Trail.{gone_start, gone_rest}
use Rattle.promises.specs.Moves.{moved_to, gone_after, moved_on, moved_inside, move_back, move_sound}
use Rattle.promises.specs.MoveParts.{counted_move, move_parts, move_early, whole_moved}

-- a sound table, and both starts not beyond their logs: what both calls let in
pub record LetIn (e : Editing) : Type 0 where
  pub sound : (check_of e.links e.points).refusal ≡ 0
  pub log : e.session.log ≤ length e.log
  pub redo : e.session.redo ≤ length e.redo

-- table, session and both live logs are the same
pub record Returned (e f : Editing) : Type 0 where
  pub links : f.links ≡ e.links
  pub points : f.points ≡ e.points
  pub session : f.session ≡ e.session
  pub log : drop e.session.log f.log ≡ drop e.session.log e.log
  pub redo : drop e.session.redo f.redo ≡ drop e.session.redo e.redo

-- the bytes of the log that undo of n reads, and those of the redo log that redo of n does
abbrev pub undo_read : Editing → ℕ → List ℕ
undo_read e n = take ((undo_in e n).answer.session.log - e.session.log) (drop e.session.log e.log)

abbrev pub redo_read : Editing → ℕ → List ℕ
redo_read e n = take ((redo_in e n).answer.session.redo - e.session.redo) (drop e.session.redo e.redo)

-- undo of n, then redo of as many as were undone: redo answers 0 and that number; table, session and both live logs are
-- as before, and so is every byte of the log
pub record UndoRedone (e : Editing) (n : ℕ) : Type 0 where
  pub answer : (redo_in (undone_from e n) (undo_in e n).answer.answer.undone).answer.answer
      ≡ record { refusal = 0; rule = 0; done = (undo_in e n).answer.answer.undone }
  pub returned : Returned e (redone_from (undone_from e n) (undo_in e n).answer.answer.undone)
  pub log : (redone_from (undone_from e n) (undo_in e n).answer.answer.undone).log ≡ e.log

-- redo of n, then undo of as many as were redone: the same, and every byte of the redo log
pub record RedoUndone (e : Editing) (n : ℕ) : Type 0 where
  pub answer : (undo_in (redone_from e n) (redo_in e n).answer.answer.done).answer.answer
      ≡ record { refusal = 0; rule = 0; undone = (redo_in e n).answer.answer.done; start = e.session.log }
  pub returned : Returned e (undone_from (redone_from e n) (redo_in e n).answer.answer.done)
  pub redo : (undone_from (redone_from e n) (redo_in e n).answer.answer.done).redo ≡ e.redo

module _ (e : Editing) (n : ℕ) (l : LetIn e) where
  -- UNDO, THEN REDO
  pub undo_redo : Bytes e.log → shortest (undo_read e n) ≡ true → UndoRedone e n
  unfolding session_undo session_redo
  undo_redo bytes short =
      let s = e.session.log in
      let h = ap redone_session (move_back e.log s (redo_state e) n l.sound l.log l.redo bytes short) in
      record {
        answer = ap (λ (r : Leaves (Left RedoAnswer)). r.answer.answer) h;
        returned = record {
          links = ap (λ (r : Leaves (Left RedoAnswer)). r.links) h;
          points = ap (λ (r : Leaves (Left RedoAnswer)). r.points) h;
          session = ap (λ (r : Leaves (Left RedoAnswer)). r.answer.session) h;
          log = ap (λ (r : Leaves (Left RedoAnswer)). drop s r.log) h;
          redo = gone_rest (gone_after e.log s (redo_state e) n l.sound l.log l.redo);
        };
        log = ap (λ (r : Leaves (Left RedoAnswer)). r.log) h;
      }

  -- REDO, THEN UNDO
  pub redo_undo : Bytes e.redo → shortest (redo_read e n) ≡ true → RedoUndone e n
  unfolding session_undo session_redo
  redo_undo bytes short =
      let s = e.session.redo in
      let h = ap undone_session (move_back e.redo s (log_state e) n l.sound l.redo l.log bytes short) in
      record {
        answer = ap (λ (r : Leaves (Left UndoAnswer)). r.answer.answer) h;
        returned = record {
          links = ap (λ (r : Leaves (Left UndoAnswer)). r.links) h;
          points = ap (λ (r : Leaves (Left UndoAnswer)). r.points) h;
          session = ap (λ (r : Leaves (Left UndoAnswer)). r.answer.session) h;
          log = gone_rest (gone_after e.redo s (log_state e) n l.sound l.redo l.log);
          redo = ap (λ (r : Leaves (Left UndoAnswer)). drop s r.log) h;
        };
        redo = ap (λ (r : Leaves (Left UndoAnswer)). r.log) h;
      }

-- what is left behind a move out of a log
abbrev moved_from : List ℕ → Moved → Editing
moved_from log m = record {
  links = m.links;
  points = m.points;
  log = log;
  redo = m.log;
  session = starts m.answer.from m.answer.to;
}

-- where the whole live log is in shortest form, so are the bytes that undo reads, from any place of it on
live_read : (log : List ℕ) (start at k : ℕ) → start ≤ at → shortest (drop start log) ≡ true
    → shortest (take k (drop at log)) ≡ true
live_read log start at k h e =
    let f : start + (at - start) ≡ at = omega arith in
    let d : drop (at - start) (drop start log) ≡ drop at log = drop-drop (at - start) start log ∙ rw f in
    shortest_take k (drop at log) (rw (← d) (shortest_drop (at - start) (drop start log) e))

-- UNDO OF n, THEN REDO OF m OF THEM, IS UNDO OF n − m: table, session and both live logs
pub undo_redo_less : (e : Editing) (m n : ℕ) → LetIn e → m ≤ n → (undo_in e n).answer.answer.refusal ≡ 0
    → Bytes e.log → shortest (drop e.session.log e.log) ≡ true
    → Returned (undone_from e (n - m)) (redone_from (undone_from e n) m)
unfolding session_undo
undo_redo_less e m n l h z bytes short =
    let s = e.session.log in
    let t = redo_state e in
    let c = undone_from e (n - m) in
    let first = move_of e.log s t (n - m) in
    let then : ℕ → Moved = λ k. move_of e.log first.answer.from (moved_to first) k in
    let k : n - (n - m) ≡ m = omega arith in
    let z' = move_early e.log s t (n - m) n (omega arith) z in
    let p : move_of e.log s t n ≡ counted_move (n - m) (then m) =
    move_parts e.log s t (n - m) n (omega arith) z' ∙ ap (λ j. counted_move (n - m) (then j)) k in
    let same : undone_from c m ≡ undone_from e n = sym (ap (moved_from e.log) p) in
    let y : (then m).answer.refusal ≡ 0 = sym (ap (λ (r : Moved). r.answer.refusal) p) ∙ z in
    let d : (undo_in c m).answer.answer.undone ≡ m = whole_moved e.log first.answer.from (moved_to first) m y in
    let i = moved_on e.log s t (n - m) l.sound l.log l.redo in
    let u = undo_redo c m (record {
      sound = move_sound e.log s t (n - m) l.sound;
      log = moved_inside e.log s t (n - m) l.sound l.log l.redo;
      redo = gone_start (gone_after e.log s t (n - m) l.sound l.log l.redo);
    }) bytes (live_read e.log s first.answer.from ((then m).answer.from - first.answer.from) i short) in
    subst (λ (f : Editing). Returned c (redone_from f m)) same
    (subst (λ (j : ℕ). Returned c (redone_from (undone_from c m) j)) d u.returned)
