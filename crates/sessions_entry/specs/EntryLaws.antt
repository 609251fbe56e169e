-- The ways through the five calls, one law each, over plain variables: what was handed on and what is answered is held
-- number for number to what the definition says.
use Rattle.std.specs.Prelude.{◌≡◌, refl, ◌≢◌, List, ℕ, ℤ}
use Rattle.std.proofs.Common.{ap, ◌∙◌, subst}
use Rattle.laws.specs.Bools.{eqb_same, eqb_other}
use Rattle.table.specs.declared.clear.ClearAnswer.{ClearAnswer}
use Rattle.table.specs.Clear.{cleared, clear_of}
use Rattle.runs.specs.declared.answers.RunAnswer.{RunAnswer}
use Rattle.runs.specs.declared.answers.MoveAnswer.{MoveAnswer}
use Rattle.runs.specs.Run.{state, leaves, run_of}
use Rattle.runs.specs.Move.{move_of}
use Rattle.takedown.specs.declared.answer.InvertAnswer.{InvertAnswer}
use Rattle.takedown.specs.Inversion.{invert_of}
use Rattle.sessions.specs.declared.Session.{Session}
use Rattle.sessions.specs.Session.{starts, onward}
use Rattle.sessions.specs.Session.{Clears, Runs, Undoes, Redoes, Inverts}
use Rattle.sessions.specs.Session.{session_clear, session_run, session_undo, session_redo, session_invert}

-- a session of two known starts
at_starts : (s : Session) (log redo : ℕ) → s.log ≡ log → s.redo ≡ redo → s ≡ starts log redo
at_starts s log redo h i = subst (λ k. s ≡ starts k redo) h (subst (λ k. s ≡ starts s.log k) i refl)

-- a take-down's answer of four known numbers
same_answer : (a b : InvertAnswer) → b.refusal ≡ a.refusal → b.rule ≡ a.rule → b.done ≡ a.done
    → b.start ≡ a.start → b ≡ a
same_answer a b h i j k =
    let is : ℕ → ℕ → ℕ → ℕ → InvertAnswer =
    λ refusal rule done start. record { refusal = refusal; rule = rule; done = done; start = start } in
    ap (λ n. is n b.rule b.done b.start) h ∙ ap (λ n. is a.refusal n b.done b.start) i
    ∙ ap (λ n. is a.refusal a.rule n b.start) j ∙ ap (λ n. is a.refusal a.rule a.done n) k

-- ---- clearing

module _ (x : List ℕ) (p : List ℤ) (log redo : ℕ) (s : Session) (solids faces loops edges vertices : ℕ)
    (a : ClearAnswer) (x' : List ℕ) (p' : List ℤ) (cs cf cl ce cv : ℕ)
    (e : cleared a.refusal x' p' ≡ clear_of x p cs cf cl ce cv) (hs : cs ≡ solids) (hf : cf ≡ faces) (hl : cl ≡ loops)
    (he : ce ≡ edges) (hv : cv ≡ vertices) (left : Session) where
  -- refused: the session is left
  pub clear_kept : a.refusal ≢ 0 → left.log ≡ s.log → left.redo ≡ s.redo
      → Clears x p log redo s solids faces loops edges vertices (record { answer = a; session = left }) x' p'
  unfolding session_clear
  clear_kept d h i =
      rw (at_starts left s.log s.redo h i, ← hs, ← hf, ← hl, ← he, ← hv, ← e, eqb_other d)

  -- done: both logs start at their ends
  pub clear_begun : a.refusal ≡ 0 → left.log ≡ log → left.redo ≡ redo
      → Clears x p log redo s solids faces loops edges vertices (record { answer = a; session = left }) x' p'
  unfolding session_clear
  clear_begun z h i = rw (at_starts left log redo h i, ← hs, ← hf, ← hl, ← he, ← hv, ← e, eqb_same z)

-- ---- run and take-down

-- where the redo log starts when no operator was done, and when one was
module _ (s : Session) (redo done start : ℕ) where
  pub redo_kept : done ≡ 0 → start ≡ s.redo → start ≡ (onward redo s done 0).redo
  redo_kept z h = rw (eqb_same z) h

  pub redo_emptied : done ≢ 0 → start ≡ redo → start ≡ (onward redo s done 0).redo
  redo_emptied d h = rw (eqb_other d) h

module _ (x : List ℕ) (p : List ℤ) (log : List ℕ) (redo : ℕ) (s : Session) (x' : List ℕ) (p' : List ℤ) (log' : List ℕ)
    (from start : ℕ) (left : Session) where
  -- a run with the session that it leaves
  pub run_left : (script : List ℕ) (a : RunAnswer) → leaves a x' p' log' ≡ run_of (state x p log from) script
      → start ≡ (onward redo s a.done 0).redo → from ≡ s.log → left.log ≡ a.start → left.redo ≡ start
      → Runs x p log redo s script (record { answer = a; session = left }) x' p' log'
  unfolding session_run
  run_left script a e r h i j = rw (at_starts left a.start start i j, r, ← h, ← e)

  -- and a take-down
  pub invert_left : (a : InvertAnswer) → leaves a x' p' log' ≡ invert_of (state x p log from)
      → start ≡ (onward redo s a.done 0).redo → from ≡ s.log → (b : InvertAnswer) → b.refusal ≡ a.refusal
      → b.rule ≡ a.rule → b.done ≡ a.done → b.start ≡ a.start → left.log ≡ a.start → left.redo ≡ start
      → Inverts x p log redo s (record { answer = b; session = left }) x' p' log'
  unfolding session_invert
  invert_left a e r h b k l m n i j =
      rw (same_answer a b k l m n, at_starts left a.start start i j, r, ← h, ← e)

-- ---- undo and redo

module _ (x : List ℕ) (p : List ℤ) (log redo : List ℕ) (s : Session) (n : ℕ) (x' : List ℕ) (p' : List ℤ)
    (m : MoveAnswer)
    (from to due : ℕ) (hn : due ≡ n) (left : Session) where
  -- a move out of the log
  pub undo_left : (redo' : List ℕ) → leaves m x' p' redo' ≡ move_of log from (state x p redo to) due
      → from ≡ s.log → to ≡ s.redo → (refusal rule undone start : ℕ) → refusal ≡ m.refusal → rule ≡ m.rule
      → undone ≡ m.done → start ≡ m.from → left.log ≡ m.from → left.redo ≡ m.to
      → Undoes x p log redo s n
      (record {
        answer = record { refusal = refusal; rule = rule; undone = undone; start = start };
        session = left;
      }) x' p' redo'
  unfolding session_undo
  undo_left redo' e hf ht refusal rule undone start a b c d i j =
      rw (at_starts left m.from m.to i j, a, b, c, d, ← hn, ← hf, ← ht, ← e)

  -- a move out of the redo log
  pub redo_left : (log' : List ℕ) → leaves m x' p' log' ≡ move_of redo from (state x p log to) due
      → from ≡ s.redo → to ≡ s.log → (refusal rule done : ℕ) → refusal ≡ m.refusal → rule ≡ m.rule
      → done ≡ m.done → left.log ≡ m.to → left.redo ≡ m.from
      → Redoes x p log redo s n
      (record { answer = record { refusal = refusal; rule = rule; done = done }; session = left }) x' p' log'
  unfolding session_redo
  redo_left log' e hf ht refusal rule done a b c i j =
      rw (at_starts left m.to m.from i j, a, b, c, ← hn, ← hf, ← ht, ← e)
