-- The ways through a part of a script or log and through a move of it, over plain variables.
use Rattle.std.specs.Prelude.{◌≡◌, ◌≢◌, List, ℕ, ◌≤◌, ◌<◌, ℤ, length}
use Rattle.std.proofs.Common.{sym, ap, ◌∙◌, lt-ltb, le-ltb}
use Rattle.laws.specs.Bools.{eqb_same, eqb_other}
use Rattle.layout.specs.declared.shape.Shape.{Shape}
use Rattle.layout.specs.Layout.{shape_of}
use Rattle.table.specs.declared.check.CheckAnswer.{CheckAnswer}
use Rattle.runs.specs.declared.answers.RunAnswer.{RunAnswer}
use Rattle.runs.specs.Run.{State, state, Ran, leaves, run_from, entry}
use Rattle.runs.specs.Move.{due_refusal, moved_by, not_part, part_of, not_moved, move_of}
use Rattle.runs.specs.Clauses.{moved_beyond, moved_within}

-- a part: refused by the entry, or run
module _ (x : List ℕ) (p : List ℤ) (log : List ℕ) (start : ℕ) (a : CheckAnswer) (e : a ≡ entry (state x p log start))
    (s : List ℕ) (from n : ℕ) where
  pub part_refused : a.refusal ≢ 0 → not_part a.refusal a.rule from (state x p log start)
      ≡ part_of (state x p log start) s from n
  unfolding part_of
  part_refused z = rw (← e, eqb_other z)

  pub part_entered : a.refusal ≡ 0 → (sh : Shape) → sh ≡ shape_of x → (r : Ran)
      → r ≡ run_from n sh s from 0 (state x p log start) → r ≡ part_of (state x p log start) s from n
  unfolding part_of
  part_entered z sh h r f = rw (← e, eqb_same z) (rw h at f)

-- the refusal where n were due: the run's own, 11 where it did fewer, none
module _ (n : ℕ) (a : RunAnswer) where
  pub due_refused : a.refusal ≢ 0 → a.refusal ≡ due_refusal n a
  due_refused d = rw (eqb_other d)

  pub due_ended : a.refusal ≡ 0 → a.done < n → 11 ≡ due_refusal n a
  due_ended z h = rw (eqb_same z, lt-ltb a.done n h)

  pub due_done : a.refusal ≡ 0 → n ≤ a.done → 0 ≡ due_refusal n a
  due_done z h = rw (eqb_same z, le-ltb a.done n h)

-- a move: its start is beyond the source, or it is such a part
module _ (source : List ℕ) (from : ℕ) (t : State) (n : ℕ) where
  pub beyond_moved : length source < from → not_moved 1 0 from t ≡ move_of source from t n
  beyond_moved h = sym (moved_beyond source from t n h)

  pub part_moved : from ≤ length source → (r : Ran) → r ≡ part_of t source from n → (k : ℕ) → k ≡ due_refusal n r.answer
      → leaves (record {
        refusal = k;
        rule = r.answer.rule;
        done = r.answer.done;
        from = r.answer.used;
        to = r.answer.start;
      }) r.links r.points r.log ≡ move_of source from t n
  part_moved h r e k d = rw d (ap (moved_by n) e ∙ sym (moved_within source from t n h))
